use Rattle.wat_expr.specs.ExpressionProduction.{expression}
use Rattle.wat_expr.proofs.Bounds.{spelled_hints_rise, none_lost}
use Rattle.wat_expr.proofs.laws.hints_in_order.Goals as goal

pub returns-clause-rising : goal.returns-clause-rising
unfolding expression
returns-clause-rising c = spelled_hints_rise

pub returns-clause-many : goal.returns-clause-many
returns-clause-many c = none_lost
