use Rattle.std.specs.Prelude.{◌-◌, ◌≤◌, length}
use Rattle.wat_format.proofs.layout.tabs_end.Given as goal

abbrev pub invariant-loop-i : goal.invariant-loop-i
invariant-loop-i l = (l.from ≤ l.i) × (l.i ≤ length l.text)

abbrev pub decreases-loop-i : goal.decreases-loop-i
decreases-loop-i l = length l.text - l.i
