use Rattle.wat_expr.proofs.Instructions.{takes_op}
use Rattle.wat_expr.proofs.take.take_op.Goals as goal

pub returns-clause-exact : goal.returns-clause-exact
returns-clause-exact c = takes_op _ _ _ c.take.ensures.reads.exact
