use Rattle.std.specs.Prelude.{◌≡◌, ◌≤◌, ◌-◌, ◌+◌, length, drop}
use Rattle.wat_mnemonics.specs.Prelude.{prefix_len, between}
use Rattle.wat_report.proofs.found.char_end.Given as goal

abbrev pub invariant-loop-end : goal.invariant-loop-end
invariant-loop-end l = record {
  same : l.end + prefix_len (between 128 191) (drop l.end l.bytes) ≡ l.at + 1 + prefix_len (between 128 191) (drop (l.at + 1) l.bytes);
  from : l.at + 1 ≤ l.end;
  within : l.end ≤ length l.bytes;
}

abbrev pub decreases-loop-end : goal.decreases-loop-end
decreases-loop-end l = length l.bytes - l.end
