use Rattle.wat_instr.specs.Reading.{ReadsOperand}
use Rattle.wat_expr.proofs.Instructions.{reads_steadily}
use Rattle.wat_expr.proofs.reader.unsuited.Goals as goal

pub returns-in-Ok : goal.returns-in-Ok
unfolding ReadsOperand
returns-in-Ok c = reads_steadily _ _ _ _ _ _ c.read_operand.ensures

pub returns-in-Err : goal.returns-in-Err
unfolding ReadsOperand
returns-in-Err c = reads_steadily _ _ _ _ _ _ c.read_operand.ensures
