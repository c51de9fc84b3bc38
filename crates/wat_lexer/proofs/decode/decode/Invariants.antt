use Rattle.std.specs.Prelude.{◌≡◌, ◌-◌, ◌≤◌, ◌<◌, length, drop, get_or, false}
use Rattle.wat_lexer.specs.Prelude.{is_raw, string_at, with_front, Raw}
use Rattle.wat_lexer.proofs.decode.decode.Given as goal

abbrev pub invariant-loop-escaped : goal.invariant-loop-escaped
invariant-loop-escaped l = record {
  same : with_front l.out.items (string_at Raw (drop l.i l.text)) ≡ with_front l.fn.out.items (string_at Raw (drop l.fn.from l.text));
  no_raw : l.i < length l.text → is_raw (get_or l.text l.i 0) ≡ false;
  from : l.fn.from ≤ l.i;
  within : l.i ≤ length l.text;
}

abbrev pub decreases-loop-escaped : goal.decreases-loop-escaped
decreases-loop-escaped l = length l.text - l.i
