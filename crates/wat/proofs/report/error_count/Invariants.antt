use Rattle.std.specs.Prelude.{length}
use Rattle.wat.proofs.report.error_count.Given as goal

abbrev pub decreases-loop-left : goal.decreases-loop-left
decreases-loop-left l = length l.left
