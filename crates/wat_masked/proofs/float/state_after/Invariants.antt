use Rattle.std.specs.Prelude.{◌≡◌, ◌≤◌, ◌-◌, length, drop}
use Rattle.wat_masked.specs.Float.{state_after}
use Rattle.wat_masked.specs.declared.float.FloatState.TheVariants as at
use Rattle.wat_masked.proofs.float.state_after.Given as goal

abbrev pub invariant-loop-i : goal.invariant-loop-i
invariant-loop-i l = record {
  within : l.i ≤ length l.x;
  same : state_after l.hex l.state (drop l.i l.x) ≡ state_after l.hex at.Start (drop l.fn.from l.x);
}

abbrev pub decreases-loop-i : goal.decreases-loop-i
decreases-loop-i l = length l.x - l.i
