-- The production of a folded instruction.
use Rattle.wat_instr.specs.Prelude.{everything, Production}
use Rattle.wat_expr.specs.Expression.{ExpressionModel}
use Rattle.wat_expr.specs.Folded.{folded_reads, folded_spells}
use Rattle.wat_expr.specs.Laws.Folded.{folded_sound, folded_complete, folded_takes, folded_balanced}
use Rattle.wat_expr.specs.Laws.Moves.{folded_moves}

-- ( i groups )
unfoldable pub folded_instruction : Production ExpressionModel
folded_instruction = record {
  spells = folded_spells;
  reads = folded_reads;
  least = 1;
  sound = folded_sound;
  complete = folded_complete;
  takes = folded_takes;
  balanced = folded_balanced;
  asks = everything;
  moves = folded_moves;
}
