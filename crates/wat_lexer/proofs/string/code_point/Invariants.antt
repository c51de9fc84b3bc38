use Rattle.std.specs.Prelude.{◌≡◌, ◌-◌, ◌≤◌, ◌<◌, length, drop, false}
use Rattle.wat_lexer.specs.Scan.{string_at, Digits}
use Rattle.wat_lexer.proofs.string.code_point.Given as goal

abbrev pub invariant-loop-i : goal.invariant-loop-i
invariant-loop-i l = record {
  same : string_at (Digits l.n l.behind) (drop l.i l.text) ≡ string_at (Digits 0 false) (drop l.fn.from l.text);
  small : l.n < 1114112;
  from : l.fn.from ≤ l.i;
  within : l.i ≤ length l.text;
}

abbrev pub decreases-loop-i : goal.decreases-loop-i
decreases-loop-i l = length l.text - l.i
