-- The production of an expression.
use Rattle.wat_instr.specs.Prelude.{everything, Production}
use Rattle.wat_expr.specs.Expression.{ExpressionModel, expression_spells}
use Rattle.wat_expr.specs.Reading.{expression_reads}
use Rattle.wat_expr.specs.Laws.Reading.{expression_sound, expression_complete, expression_takes, expression_balanced}
use Rattle.wat_expr.specs.Laws.Moves.{expression_moves}

-- items up to the end
unfoldable pub expression : Production ExpressionModel
expression = record {
  spells = expression_spells;
  reads = expression_reads;
  least = 0;
  sound = expression_sound;
  complete = expression_complete;
  takes = expression_takes;
  balanced = expression_balanced;
  asks = everything;
  moves = expression_moves;
}
