use Rattle.std.specs.Prelude.{◌≡◌, ◌≤◌, ◌-◌, length}
use Rattle.wat_report.specs.Positions.{line_stop}
use Rattle.wat_report.proofs.lines.line_stop.Given as goal

abbrev pub invariant-loop-stop : goal.invariant-loop-stop
invariant-loop-stop l = record {
  same : line_stop l.text l.stop ≡ line_stop l.text l.start;
  from : l.start ≤ l.stop;
  within : l.stop ≤ length l.text;
}

abbrev pub decreases-loop-stop : goal.decreases-loop-stop
decreases-loop-stop l = length l.text - l.stop
