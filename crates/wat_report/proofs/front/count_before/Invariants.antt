use Rattle.std.specs.Prelude.{◌≡◌, ◌≤◌, ◌-◌, ◌+◌, length, drop}
use Rattle.wat_report.specs.Prelude.{placed, count_before}
use Rattle.wat_report.proofs.front.count_before.Given as goal

abbrev pub invariant-loop-count : goal.invariant-loop-count
invariant-loop-count l = record {
  same : l.count + count_before l.at (drop l.count (placed l.tokens)) ≡ count_before l.at (placed l.tokens);
  within : l.count ≤ length l.tokens;
}

abbrev pub decreases-loop-count : goal.decreases-loop-count
decreases-loop-count l = length l.tokens - l.count
