use Rattle.std.specs.Prelude.{◌≡◌, ◌≤◌, ◌-◌, ◌+◌}
use Rattle.wat_report.specs.Positions.{begins_line, count_up_to}
use Rattle.wat_report.proofs.lines.line_number.Given as goal

abbrev pub invariant-loop-passed : goal.invariant-loop-passed
invariant-loop-passed l = record {
  counted : l.line ≡ count_up_to (begins_line l.bytes) l.passed;
  bound : l.line ≤ l.passed + 1;
  within : l.passed ≤ l.at;
}

abbrev pub decreases-loop-passed : goal.decreases-loop-passed
decreases-loop-passed l = l.at - l.passed
