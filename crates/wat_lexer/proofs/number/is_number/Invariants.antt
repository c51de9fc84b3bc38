use Rattle.std.specs.Prelude.{◌≡◌, ◌-◌, ◌≤◌, length, drop, is_some, false}
use Rattle.wat_lexer.specs.Number.{read}
use Rattle.wat_lexer.proofs.number.is_number.Given as goal

abbrev pub invariant-loop-i : goal.invariant-loop-i
invariant-loop-i l = record {
  same : is_some (read l.base l.behind 0 (drop l.i l.text)) ≡ is_some (read l.base false 0 (drop l.fn.from l.text));
  within : l.i ≤ length l.text;
}

abbrev pub decreases-loop-i : goal.decreases-loop-i
decreases-loop-i l = length l.text - l.i
