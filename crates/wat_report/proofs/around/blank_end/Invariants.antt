use Rattle.std.specs.Prelude.{◌≡◌, ◌≤◌, ◌-◌, ◌+◌, length, drop}
use Rattle.wat_mnemonics.specs.Prelude.{prefix_len, is_space}
use Rattle.wat_report.proofs.around.blank_end.Given as goal

abbrev pub invariant-loop-end : goal.invariant-loop-end
invariant-loop-end l = record {
  same : l.end + prefix_len is_space (drop l.end l.text) ≡ l.at + prefix_len is_space (drop l.at l.text);
  within : l.end ≤ length l.text;
}

abbrev pub decreases-loop-end : goal.decreases-loop-end
decreases-loop-end l = length l.text - l.end
