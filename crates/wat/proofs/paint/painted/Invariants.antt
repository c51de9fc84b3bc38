use Rattle.std.specs.Prelude.{length}
use Rattle.wat.proofs.Painting.{PaintedUpTo}
use Rattle.wat.proofs.paint.painted.Given as goal

-- the report up to what is left was painted
abbrev pub invariant-loop-left : goal.invariant-loop-left
invariant-loop-left l = PaintedUpTo l.report l.left l.out.items

abbrev pub decreases-loop-left : goal.decreases-loop-left
decreases-loop-left l = length l.left
