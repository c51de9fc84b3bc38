use Rattle.std.specs.Prelude.{◌≡◌, ◌-◌, ◌≤◌, ◌<◌, length, drop, get_or, false}
use Rattle.wat_lexer.specs.Prelude.{is_raw, rest_at}
use Rattle.wat_lexer.proofs.string.string_end.Given as goal

abbrev pub invariant-loop-behind : goal.invariant-loop-behind
invariant-loop-behind l = record {
  same : rest_at (drop l.i l.text) ≡ rest_at (drop l.fn.from l.text);
  no_raw : l.i < length l.text → is_raw (get_or l.text l.i 0) ≡ false;
  from : l.fn.from ≤ l.i;
  within : l.i ≤ length l.text;
}

abbrev pub decreases-loop-behind : goal.decreases-loop-behind
decreases-loop-behind l = length l.text - l.i
