use Rattle.std.specs.Prelude.{◌≡◌, ◌≤◌}
use Rattle.wat_report.specs.Positions.{begins_line, last_up_to}
use Rattle.wat_report.proofs.lines.line_start.Given as goal

abbrev pub invariant-loop-start : goal.invariant-loop-start
invariant-loop-start l = record {
  same : last_up_to (begins_line l.text) l.start ≡ last_up_to (begins_line l.text) l.at;
  within : l.start ≤ l.at;
}

abbrev pub decreases-loop-start : goal.decreases-loop-start
decreases-loop-start l = l.start
