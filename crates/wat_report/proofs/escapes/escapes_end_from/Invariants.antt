use Rattle.std.specs.Prelude.{◌≡◌, ◌≤◌, ◌-◌, ◌+◌, length, drop}
use Rattle.wat_report.specs.Escapes.{escapes_len}
use Rattle.wat_report.proofs.escapes.escapes_end_from.Given as goal

abbrev pub invariant-loop-end : goal.invariant-loop-end
invariant-loop-end l = record {
  same : l.end + escapes_len (drop l.end l.bytes) ≡ l.from + escapes_len (drop l.from l.bytes);
  within : l.end ≤ length l.bytes;
}

abbrev pub decreases-loop-end : goal.decreases-loop-end
decreases-loop-end l = length l.bytes - l.end
