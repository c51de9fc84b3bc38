use Rattle.std.proofs.Common.{[], refl, rules, ◌≢◌}
use Rattle.wat_print_instr.specs.Laws.Prelude.{expression_view, expression, may_break, NoneSpells, Memory, on_one_line, unspelled, spell_expression, printable_expression, expression_closed, expression_well_formed, expression_only}
use Rattle.wat_print.specs.Laws.Printed.{reads_back}
use Rattle.wat_print_instr.proofs.expression.print_expression.Goals as goal

pub returns-clause-reads_back : goal.returns-clause-reads_back
returns-clause-reads_back c =
    let v = expression_view c.args.value.now in
    let printable = c.in_ok-write_expression.ensures.printable in
    reads_back expression v (spell_expression v) (may_break c.args.layout) c.new-out.result
    c.write_expression.new.out _ (expression_well_formed v printable)
    (expression_closed v [] printable (refl, (refl, refl, refl))) c.new-out.ensures
    c.in_ok-write_expression.ensures.written c.into_text.ensures

pub returns-clause-line : goal.returns-clause-line
returns-clause-line c e =
    on_one_line c.args.layout (spell_expression (expression_view c.args.value.now))
    c.new-out.result c.write_expression.new.out _ e c.new-out.ensures
    c.in_ok-write_expression.ensures.written c.into_text.ensures

pub returns-in_err-write_expression-clause-refused :
    goal.returns-in_err-write_expression-clause-refused
returns-in_err-write_expression-clause-refused c =
    let v = expression_view c.args.value.now in
    let h : c.in_err-write_expression.field-0.0 ≢ Memory → NoneSpells expression v =
    λ n. unspelled expression v (printable_expression v)
    (c.in_err-write_expression.ensures.refused n)
    (expression_only.holds v) in
    search (rules, h)
