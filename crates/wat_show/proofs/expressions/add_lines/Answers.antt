use Rattle.std.proofs.Common.{arith, get_or, None}
use Rattle.wat_show.proofs.Lines.{added_line}
use Rattle.wat_show.proofs.expressions.add_lines.Goals as goal

pub loop-index-preserved : goal.loop-index-preserved
loop-index-preserved c = added_line c.args.front.now (λ k. get_or c.args.marks.now k None) c.args.out.now.items c.loop-index.out.items c.add_line.new.out.items c.args.instrs.now c.loop-index.index c.index-instrs-index.result (omega arith) c.index-instrs-index.is c.loop-index.invariant c.in_ok-add_line.ensures
