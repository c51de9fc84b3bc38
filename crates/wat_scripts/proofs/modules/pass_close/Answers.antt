use Rattle.std.proofs.Common.{◌∙◌, ap, sym, refl, List, drop, true, false}
use Rattle.wat_lexer.specs.Prelude.{Token}
use Rattle.wat_tokens.specs.Tests.{none_left, ends}
use Rattle.wat_scripts.specs.Steps.{front}
use Rattle.wat_scripts.proofs.Fronts.{left_is, closes, first_place, empty, not_empty}
use Rattle.wat_scripts.proofs.Parts.{close_passes, none_at_end}
use Rattle.wat_scripts.proofs.modules.pass_close.Goals as goal

pub returns-then-at_end-clause-refused : goal.returns-then-at_end-clause-refused
returns-then-at_end-clause-refused c =
    let ts = front c.args.parser.now in
    let over = empty ts (ap (λ (t : List Token). none_left t) (sym (left_is c.requires.ready)) ∙ sym c.at_end.ensures ∙ c.if-at_end.true) in
    λ _. (c.unexpected.ensures, none_at_end ts over)

pub returns-clause-passes : goal.returns-clause-passes
returns-clause-passes c =
    let ts = front c.args.parser.now in
    let closed = closes ts (ap (λ (t : List Token). ends t) (sym (left_is c.requires.ready)) ∙ c.requires.over) (ap (λ (t : List Token). none_left t) (sym (left_is c.requires.ready)) ∙ sym c.at_end.ensures ∙ c.if-at_end.false) in
    rw c.pass_token.ensures.front (close_passes (first_place ts) ts (drop 1 ts) _ _ closed refl)

pub returns-clause-less : goal.returns-clause-less
returns-clause-less c =
    let ts = front c.args.parser.now in
    c.pass_token.ensures.less (not_empty ts (ap (λ (t : List Token). none_left t) (sym (left_is c.requires.ready)) ∙ sym c.at_end.ensures ∙ c.if-at_end.false))
