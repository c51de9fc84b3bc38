use Rattle.wat_expr.specs.Prelude.{folded_instruction, expression}
use Rattle.wat_expr.proofs.Bounds.{spelled_fewer, folded_fewer}
use Rattle.wat_expr.proofs.laws.no_more_than_tokens.Goals as goal

pub returns-clause-written : goal.returns-clause-written
unfolding expression
returns-clause-written c = spelled_fewer

pub returns-clause-folded : goal.returns-clause-folded
unfolding folded_instruction
returns-clause-folded c = folded_fewer
