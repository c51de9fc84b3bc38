use Rattle.std.proofs.Common.{◌≡◌, ◌∙◌, ap, sym, subst, List, drop, true, codes, None, Some}
use Rattle.wat_lexer.specs.Prelude.{Token, Placed, tokens_of}
use Rattle.wat_tokens.specs.Tests.{begins_group, second}
use Rattle.wat_tokens.specs.Visible.{closing}
use Rattle.wat_scripts.specs.Scripts.{is_module, definition_of}
use Rattle.wat_scripts.specs.Steps.{PassesGroup, front}
use Rattle.wat_scripts.proofs.Fronts.{left_is, place_is}
use Rattle.wat_scripts.proofs.Heads.{module_passes, module_unclosed}
use Rattle.wat_scripts.proofs.Outcomes.{if_ok, no_refusal}
use Rattle.wat_scripts.proofs.modules.take_module.Goals as goal

pub returns-in-Err-clause-refused : goal.returns-in-Err-clause-refused
returns-in-Err-clause-refused c =
    let ts = front c.args.parser.now in
    let begun : begins_group (codes "module") (tokens_of ts) ≡ true = ap (λ (t : List Token). begins_group (codes "module") t) (sym (left_is c.requires.ready)) ∙ c.requires.group in
    let denied : closing 0 (drop 1 (drop 1 ts)) ≡ None = ap (λ (l : List Placed). closing 0 (drop 1 l)) (sym c.pass_token.ensures.front) ∙ sym c.to_definition-definition.ensures.same ∙ c.in-Err.ensures.unclosed.1 in
    λ _. (c.in-Err.ensures.unclosed.0, module_unclosed ts begun denied)

pub returns-clause-passes : goal.returns-clause-passes
returns-clause-passes c =
    let ts = front c.args.parser.now in
    let us = front c.pass_to_end.new.parser in
    let old = c.args.modules.now.items in
    let begun : begins_group (codes "module") (tokens_of ts) ≡ true = ap (λ (t : List Token). begins_group (codes "module") t) (sym (left_is c.requires.ready)) ∙ c.requires.group in
    let place = place_is c.offset-start.result c.requires.ready (rw c.offset-start.ensures c.cur_span.ensures) in
    let (to, end_is, ends) = c.in-Ok.ensures.closed in
    let ends_here : closing 0 (drop 1 (drop 1 ts)) ≡ Some (to, us) = ap (λ (l : List Placed). closing 0 (drop 1 l)) (sym c.pass_token.ensures.front) ∙ sym c.to_definition-definition.ensures.same ∙ ends in
    let kept : c.is_module-kept.result ≡ second is_module (tokens_of (drop 1 ts)) = c.is_module-kept.ensures ∙ ap (λ (t : List Token). second is_module t) (left_is c.pass_token.ensures.ready) ∙ ap (λ (l : List Placed). second is_module (tokens_of l)) c.pass_token.ensures.front in
    let found : c.to_definition-definition.result ≡ definition_of (drop 1 (drop 1 ts)) = c.to_definition-definition.ensures.value ∙ ap (λ (l : List Placed). definition_of (drop 1 l)) c.pass_token.ensures.front in
    let passes = rw (← end_is) at (module_passes ts us c.offset-start.result to c.is_module-kept.result c.to_definition-definition.result old begun place ends_here kept found) in
    if_ok c.keep.result (λ e. subst (PassesGroup ts us old) (sym e) passes) c.keep.ensures.appended

pub returns-clause-refused : goal.returns-clause-refused
returns-clause-refused c = no_refusal _ c.keep.result c.keep.ensures.memory
