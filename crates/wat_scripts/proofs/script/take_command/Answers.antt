use Rattle.std.proofs.Common.{◌≡◌, ◌∙◌, ap, sym, List, true, false, codes}
use Rattle.std.specs.Cmp.{first_so}
use Rattle.wat_lexer.specs.Prelude.{Token, tokens_of}
use Rattle.wat_tokens.specs.Tests.{begins_group, begins_lparen, none_left}
use Rattle.wat_scripts.specs.Steps.{front}
use Rattle.wat_scripts.proofs.Fronts.{left_is}
use Rattle.wat_scripts.proofs.Heads.{module_inner}
use Rattle.wat_scripts.proofs.Outcomes.{if_ok, if_refused}
use Rattle.wat_scripts.proofs.Commands.{not_opened, not_closed, module_command}
use Rattle.wat_scripts.proofs.script.take_command.Goals as goal

pub returns-then-not-opens-clause-refused : goal.returns-then-not-opens-clause-refused
returns-then-not-opens-clause-refused c =
    let ts = front c.args.parser.now in
    let more : none_left (tokens_of ts) ≡ false = ap (λ (t : List Token). none_left t) (sym (left_is c.requires.ready)) ∙ c.requires.more in
    let denied : begins_lparen (tokens_of ts) ≡ false = ap (λ (t : List Token). begins_lparen t) (sym (left_is c.requires.ready)) ∙ sym c.opens.ensures ∙ (cc) in
    λ _. (c.unexpected.ensures, not_opened ts more denied)

pub returns-then-group_is-clause-passes : goal.returns-then-group_is-clause-passes
returns-then-group_is-clause-passes c =
    let ts = front c.args.parser.now in
    let begun : begins_group (codes "module") (tokens_of ts) ≡ true = ap (λ (t : List Token). begins_group (codes "module") t) (sym (left_is c.requires.ready)) ∙ sym c.group_is.ensures ∙ c.if-group_is.true in
    if_ok c.take_module.result (λ g. let (at, body, is) = module_inner g begun in module_command g at body is) c.take_module.ensures.passes

pub returns-then-group_is-clause-refused : goal.returns-then-group_is-clause-refused
returns-then-group_is-clause-refused c =
    let ts = front c.args.parser.now in
    let begun : begins_group (codes "module") (tokens_of ts) ≡ true = ap (λ (t : List Token). begins_group (codes "module") t) (sym (left_is c.requires.ready)) ∙ sym c.group_is.ensures ∙ c.if-group_is.true in
    if_refused c.take_module.result (not_closed ts (first_so (begins_lparen (tokens_of ts)) _ begun)) c.take_module.ensures.refused
