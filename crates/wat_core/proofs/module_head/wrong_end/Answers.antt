use Rattle.std.proofs.Common.{◌≡◌, ◌∙◌, sym, ap, ℕ, Some, Bool, List, true, false}
use Rattle.wat_core.specs.Prelude.{Placed, State, seen, shown, behind_one}
use Rattle.wat_core.specs.ModuleHead.{begins_rparen, first_offset, place_of}
use Rattle.wat_core.proofs.Heads.{one_rparen, sees, none_behind, first_behind}
use Rattle.wat_core.proofs.module_head.wrong_end.Goals as goal

pub returns-then-at_end : goal.returns-then-at_end
returns-then-at_end c =
    let p = c.args.parser.now in
    let us = behind_one true p.rest in
    let s = c.with_standard_annotations.new.self in
    let l : s.left ≡ seen false us = ap (λ (s : State). s.left) c.with_standard_annotations.ensures.value ∙ ap (λ (s : State). seen false s.rest) c.pass_token.ensures.value ∙ ap (λ (k : Bool). seen false (behind_one k p.rest)) c.requires.known in
    let closes : begins_rparen (seen true p.rest) ≡ true = rw (← c.requires.seen, ← c.cursor.ensures) (one_rparen _ c.in-Some.ensures) in
    rw closes (ap (λ (ts : List Placed). first_offset ts) (none_behind s.left (shown false us) (sees false s.left us l) (sym c.at_end.ensures ∙ c.if-at_end.true)))

pub returns : goal.returns
returns c =
    let p = c.args.parser.now in
    let us = behind_one true p.rest in
    let s = c.with_standard_annotations.new.self in
    let l : s.left ≡ seen false us = ap (λ (s : State). s.left) c.with_standard_annotations.ensures.value ∙ ap (λ (s : State). seen false s.rest) c.pass_token.ensures.value ∙ ap (λ (k : Bool). seen false (behind_one k p.rest)) c.requires.known in
    let place = c.unexpected-2.ensures.place ∙ ap (λ (s : State). place_of c.args.end (shown s.known s.rest)) c.with_standard_annotations.ensures.value ∙ ap (λ (s : State). place_of c.args.end (shown false s.rest)) c.pass_token.ensures.value
    ∙ ap (λ (k : Bool). place_of c.args.end (shown false (behind_one k p.rest))) c.requires.known in
    let closes : begins_rparen (seen true p.rest) ≡ true = rw (← c.requires.seen, ← c.cursor.ensures) (one_rparen _ c.in-Some.ensures) in
    let first = first_behind s.left (shown false us) c.args.end (sees false s.left us l) (sym c.at_end.ensures ∙ c.if-at_end.false) in
    (c.unexpected-2.ensures.fault, rw closes (first ∙ ap (λ (n : ℕ). Some n) (sym place)))
