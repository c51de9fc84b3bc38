use Rattle.wat_instr.specs.Reading.{ReadsOperand}
use Rattle.wat_expr.proofs.Instructions.{puts_behind, refused_keeps, reads_steadily}
use Rattle.wat_expr.proofs.take.read_behind.Goals as goal

pub returns-clause-exact : goal.returns-clause-exact
unfolding ReadsOperand
returns-clause-exact c = rw c.make_room.ensures.items at (puts_behind _ _ _ _ _ _ c.read_operand.ensures.exact)

pub returns-clause-refused : goal.returns-clause-refused
unfolding ReadsOperand
returns-clause-refused c = rw c.make_room.ensures.items at (refused_keeps _ _ _ _ _ c.read_operand.ensures.exact)

pub returns-clause-steady : goal.returns-clause-steady
unfolding ReadsOperand
returns-clause-steady c = reads_steadily _ _ _ _ _ _ c.read_operand.ensures
