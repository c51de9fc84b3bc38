use Rattle.std.specs.Prelude.{◌≡◌, ◌≤◌}
use Rattle.wat_report.specs.Positions.{last_up_to}
use Rattle.wat_report.specs.Around.{is_behind_paren}
use Rattle.wat_report.proofs.around.list_start.Given as goal

abbrev pub invariant-loop-start : goal.invariant-loop-start
invariant-loop-start l = record {
  same : last_up_to (is_behind_paren l.text) l.start ≡ last_up_to (is_behind_paren l.text) l.at;
  within : l.start ≤ l.at;
}

abbrev pub decreases-loop-start : goal.decreases-loop-start
decreases-loop-start l = l.start
