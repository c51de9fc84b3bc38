use Rattle.std.proofs.Common.{rules, ◌≡◌, ◌∙◌, [], length, ap, true, inl, inr}
use Rattle.wat_answers.specs.Prelude.{offset_of, Diagnostic}
use Rattle.wat_answers.specs.Checked.{MayExpect, may_expect}
use Rattle.wat_answers.proofs.Expecting.{expecting, no_items}
use Rattle.wat_answers.proofs.checked.diagnostic_with_expected.Goals.{then-is_empty+then-may_expect+in_ok-diagnostic-2, else-is_empty}
use Rattle.wat_answers.proofs.checked.diagnostic_with_expected.Goals as goal

pub returns : goal.returns
unfolding MayExpect
returns c =
    let h = c.in_ok-diagnostic.ensures in
    let d = c.in_ok-diagnostic.diagnostic in
    let e = c.if-is_empty.diagnostic in
    elim c.if-is_empty.branch [
      | then-is_empty+then-may_expect+in_ok-diagnostic-2 w ↦ (
        expecting c.args.text.now (offset_of c.args.error.span) c.args.error.fault d e h.found
            (ap (λ (x : Diagnostic). x.offset) w.diagnostic-is)
            (ap (λ (x : Diagnostic). x.length) w.diagnostic-is)
            (ap (λ (x : Diagnostic). x.place) w.diagnostic-is)
            (ap (λ (x : Diagnostic). x.kind) w.diagnostic-is)
            (ap (λ (x : Diagnostic). x.message.items) w.diagnostic-is)
            (ap (λ (x : Diagnostic). x.shown.items) w.diagnostic-is)
            (ap (λ (x : Diagnostic). x.hint.items) w.diagnostic-is),
        (let zero : length d.hint.items ≡ 0 = search rules in
            let none : e.hint.items ≡ [] = ap (λ (x : Diagnostic). x.hint.items) w.diagnostic-is ∙ no_items d.hint.items zero in
            let may : may_expect c.args.error.fault ≡ true = search rules in
            inr (none, may)),
      )
      | else-is_empty w ↦ (
        expecting c.args.text.now (offset_of c.args.error.span) c.args.error.fault d e h.found
            (ap (λ (x : Diagnostic). x.offset) w.diagnostic-is)
            (ap (λ (x : Diagnostic). x.length) w.diagnostic-is)
            (ap (λ (x : Diagnostic). x.place) w.diagnostic-is)
            (ap (λ (x : Diagnostic). x.kind) w.diagnostic-is)
            (ap (λ (x : Diagnostic). x.message.items) w.diagnostic-is)
            (ap (λ (x : Diagnostic). x.shown.items) w.diagnostic-is)
            (ap (λ (x : Diagnostic). x.hint.items) w.diagnostic-is),
        inl (ap (λ (x : Diagnostic). x.expected.items) w.diagnostic-is ∙ h.none_expected),
      )
    ]
