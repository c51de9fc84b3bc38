use Rattle.std.specs.Prelude.{◌≡◌, ◌-◌, ◌≤◌, length, drop}
use Rattle.wat_lexer.specs.Number.{read, number, up_to}
use Rattle.wat_lexer.proofs.number.number_up_to.Given as goal

abbrev pub invariant-loop-i : goal.invariant-loop-i
invariant-loop-i l = record {
  same : up_to l.limit (read l.base l.behind l.n (drop l.i l.text)) ≡ up_to l.limit (number l.base (drop l.fn.from l.text));
  small : l.n ≤ l.limit;
  within : l.i ≤ length l.text;
}

abbrev pub decreases-loop-i : goal.decreases-loop-i
decreases-loop-i l = length l.text - l.i
