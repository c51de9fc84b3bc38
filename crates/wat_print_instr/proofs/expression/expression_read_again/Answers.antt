use Rattle.std.proofs.Common.{ℕ, true, List, ◌∙◌, subst, sym}
use Rattle.wat_expr.specs.Prelude.{expression_view, expression, TextSpells}
use Rattle.wat_print_instr.proofs.expression.expression_read_again.Goals as goal

pub returns-in-Ok-clause-same : goal.returns-in-Ok-clause-same
returns-in-Ok-clause-same c =
    let v = expression_view c.args.value.now in
    let same = c.in_ok-text.ensures ∙ c.as_str.ensures.value in
    c.in-Ok.ensures.only v (subst (λ (x : List ℕ). TextSpells true expression x v) (sym same)
    c.in_ok-printed.ensures.reads_back)

pub unreachable-requires : goal.unreachable-requires
unreachable-requires c =
    let v = expression_view c.args.value.now in
    let same = c.in_ok-text.ensures ∙ c.as_str.ensures.value in
    c.in_default.not-Memory (c.in-Err.ensures.only v
    (subst (λ (x : List ℕ). TextSpells true expression x v) (sym same)
    c.in_ok-printed.ensures.reads_back))
