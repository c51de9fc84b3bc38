use Rattle.std.proofs.Common.{arith}
use Rattle.wat_show.proofs.Lines.{marks_more}
use Rattle.wat_show.proofs.expressions.marks_of.Goals as goal

pub loop-hint-preserved : goal.loop-hint-preserved
loop-hint-preserved c = (omega (arith, c.mark.ensures.count, c.loop-hint.invariant.0), marks_more c.args.hints.now c.loop-hint.hint-index _ c.mark.new.marks.items (omega arith) (c.mark.ensures.marks _ c.loop-hint.invariant.1))
