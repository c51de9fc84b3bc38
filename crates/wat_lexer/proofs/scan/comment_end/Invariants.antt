use Rattle.std.specs.Prelude.{◌≡◌, ◌-◌, ◌≤◌, length, drop}
use Rattle.wat_lexer.specs.Scan.{behind_comment}
use Rattle.wat_lexer.proofs.scan.comment_end.Given as goal

abbrev pub invariant-loop-i : goal.invariant-loop-i
invariant-loop-i l = record {
  same : behind_comment l.depth (drop l.i l.text) ≡ behind_comment 0 (drop l.fn.from l.text);
  room : l.depth ≤ l.i;
  from : l.fn.from ≤ l.i;
  within : l.i ≤ length l.text;
}

abbrev pub decreases-loop-i : goal.decreases-loop-i
decreases-loop-i l = length l.text - l.i
