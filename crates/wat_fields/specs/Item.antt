-- One item of an element segment.
use Rattle.std.specs.Prelude.{ℕ, List, codes}
use Rattle.wat_expr.specs.Prelude.{Production, where_else, group, second_word, ExpressionModel, expression, folded_instruction}

-- ( w Expression ) if the second token is the word w; otherwise a folded instruction
unfoldable pub written_or_folded : List ℕ → Production ExpressionModel
written_or_folded w = where_else (second_word w) (group w expression) folded_instruction

-- ( item Expression ) if the second token is `item`; otherwise a folded instruction
unfoldable pub item : Production ExpressionModel
item = written_or_folded (codes "item")
