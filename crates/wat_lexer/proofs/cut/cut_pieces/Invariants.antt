use Rattle.std.specs.Prelude.{◌≡◌, ◌-◌, ◌≤◌, [], length, drop, ◌==◌, ◌&&◌, nat_lt}
use Rattle.wat_lexer.specs.Prelude.{has_annotation, lying, entries_of, entry_tokens, placed, AllCanBeRead, AllApart}
use Rattle.wat_lexer.proofs.CutSoFar.{CutSoFar}
use Rattle.wat_lexer.proofs.cut.cut_pieces.Given as goal

abbrev pub invariant-loop-at : goal.invariant-loop-at
invariant-loop-at l = record {
  cuts : CutSoFar l.text (placed (entries_of l.text l.side_table.items [] l.tokens.items)) ((l.at == l.opened) && nat_lt 0 l.at) (drop l.at l.text);
  noted : has_annotation (lying l.side_table.items) ≡ has_annotation (entry_tokens (entries_of l.text l.side_table.items [] l.tokens.items));
  fits : AllCanBeRead l.text l.side_table.items l.tokens.items;
  apart : AllApart l.tokens.items;
  few : length l.tokens.items ≤ l.at;
  few_lie : length l.side_table.items ≤ l.at;
  within : l.at ≤ length l.text;
  opened : l.opened ≤ l.at;
}

abbrev pub decreases-loop-at : goal.decreases-loop-at
decreases-loop-at l = length l.text - l.at
