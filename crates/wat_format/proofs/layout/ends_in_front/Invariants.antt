use Rattle.std.specs.Prelude.{◌-◌, ◌≤◌, length}
use Rattle.wat_format.proofs.layout.ends_in_front.Given as goal

abbrev pub invariant-words : goal.invariant-words
invariant-words l = l.i ≤ length l.text

abbrev pub decreases-words : goal.decreases-words
decreases-words l = length l.text - l.i
