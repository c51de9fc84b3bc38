use Rattle.std.specs.Prelude.{◌≡◌, ◌≤◌, drop}
use Rattle.wat_lexer.specs.View.{placed}
use Rattle.wat_tokens.specs.Visible.{closing}
use Rattle.wat_tokens.proofs.closing.closing.Given as goal

abbrev pub invariant-loop-i : goal.invariant-loop-i
invariant-loop-i l = record {
  same : closing 0 (drop l.from (placed l.tokens)) ≡ closing l.depth (drop l.i (placed l.tokens));
  few : l.depth ≤ l.i;
}
