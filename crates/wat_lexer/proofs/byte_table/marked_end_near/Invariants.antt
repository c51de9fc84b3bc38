use Rattle.std.specs.Prelude.{◌≡◌, ◌-◌, ◌≤◌, length, get_or, true, false}
use Rattle.wat_lexer.proofs.Tables.{Below}
use Rattle.wat_lexer.proofs.byte_table.marked_end_near.Given as goal

abbrev pub invariant-loop-i : goal.invariant-loop-i
invariant-loop-i l = record {
  marked : Below (λ k. get_or l.table (get_or l.text k 0) false ≡ true) l.fn.from l.i;
  from : l.fn.from ≤ l.i;
  within : l.i ≤ length l.text;
}

abbrev pub decreases-loop-i : goal.decreases-loop-i
decreases-loop-i l = length l.text - l.i
