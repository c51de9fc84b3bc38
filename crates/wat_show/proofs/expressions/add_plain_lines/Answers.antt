use Rattle.std.proofs.Common.{arith, []}
use Rattle.wat_show.specs.Expressions.{hint_at}
use Rattle.wat_show.proofs.Lines.{added_line}
use Rattle.wat_show.proofs.expressions.add_plain_lines.Goals as goal

pub loop-instr-preserved : goal.loop-instr-preserved
loop-instr-preserved c = added_line c.args.front.now (hint_at []) c.args.out.now.items c.loop-instr.out.items c.add_line.new.out.items c.args.instrs.now c.loop-instr.instr-index c.instr-item.result (omega arith) c.instr-item.is c.loop-instr.invariant c.in_ok-add_line.ensures
