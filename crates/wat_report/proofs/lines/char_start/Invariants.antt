use Rattle.std.specs.Prelude.{◌≡◌, ◌≤◌, length, min}
use Rattle.wat_report.specs.Positions.{begins_char, last_up_to}
use Rattle.wat_report.proofs.lines.char_start.Given as goal

abbrev pub invariant-loop-at : goal.invariant-loop-at
invariant-loop-at l = record {
  same : last_up_to (begins_char l.text) l.at ≡ last_up_to (begins_char l.text) (min l.fn.offset (length l.text));
  within : l.at ≤ length l.text;
  before : l.at ≤ l.fn.offset;
}

abbrev pub decreases-loop-at : goal.decreases-loop-at
decreases-loop-at l = l.at
