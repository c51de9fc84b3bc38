use Rattle.std.proofs.Common.{arith}
use Rattle.wat_show.proofs.Lines.{expression_added, plain_added, hints_none}
use Rattle.wat_show.proofs.expressions.add_lines_of.Goals as goal

pub returns-then-is_empty : goal.returns-then-is_empty
returns-then-is_empty c = plain_added c.args.front.now c.add_plain_lines.result c.args.expression.now c.args.out.now.items c.add_plain_lines.new.out.items (hints_none _ _ _ c.args.expression.now.branch_hints.ok.0 c.is_empty.ensures c.if-is_empty.true) (rw c.deref.ensures.value at c.add_plain_lines.ensures)

pub returns : goal.returns
returns c = expression_added c.args.front.now c.add_lines.result c.args.expression.now c.args.out.now.items c.add_lines.new.out.items c.in_ok-marks.marks.items (omega (arith, c.in_ok-marks.ensures.count, c.len.ensures)) (rw c.deref-2.ensures.value at c.in_ok-marks.ensures.marks) (rw (c.deref-3.ensures.value, c.deref-4.ensures.value) at c.add_lines.ensures)
