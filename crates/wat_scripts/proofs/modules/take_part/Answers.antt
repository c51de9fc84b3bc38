use Rattle.std.proofs.Common.{◌∙◌, ap, sym, refl, List, drop, true, false}
use Rattle.wat_lexer.specs.Prelude.{Token}
use Rattle.wat_tokens.specs.Tests.{begins_lparen, ends}
use Rattle.wat_scripts.specs.Steps.{front}
use Rattle.wat_scripts.proofs.Fronts.{left_is, opens, first_place, plain, goes_on}
use Rattle.wat_scripts.proofs.Outcomes.{if_ok, if_refused}
use Rattle.wat_scripts.proofs.Parts.{group_passes, token_passes, none_unclosed}
use Rattle.wat_scripts.proofs.modules.take_part.Goals as goal

pub returns-then-opens-clause-passes : goal.returns-then-opens-clause-passes
returns-then-opens-clause-passes c = if_ok c.take_group.result group_passes c.take_group.ensures.passes

pub returns-then-opens-clause-refused : goal.returns-then-opens-clause-refused
returns-then-opens-clause-refused c =
    let ts = front c.args.parser.now in
    let opened = opens ts (ap (λ (t : List Token). begins_lparen t) (sym (left_is c.requires.ready)) ∙ sym c.opens.ensures ∙ c.if-opens.true) in
    if_refused c.take_group.result (none_unclosed (first_place ts) ts opened) c.take_group.ensures.refused

pub returns-clause-passes : goal.returns-clause-passes
returns-clause-passes c =
    let ts = front c.args.parser.now in
    let (p, not_paren, is) = plain ts (ap (λ (t : List Token). ends t) (sym (left_is c.requires.ready)) ∙ c.requires.more) (ap (λ (t : List Token). begins_lparen t) (sym (left_is c.requires.ready)) ∙ sym c.opens.ensures ∙ c.if-opens.false) in
    rw c.pass_token.ensures.front (token_passes p ts (drop 1 ts) _ _ not_paren is refl)

pub returns-clause-less : goal.returns-clause-less
returns-clause-less c =
    let ts = front c.args.parser.now in
    c.pass_token.ensures.less (goes_on ts (ap (λ (t : List Token). ends t) (sym (left_is c.requires.ready)) ∙ c.requires.more))
