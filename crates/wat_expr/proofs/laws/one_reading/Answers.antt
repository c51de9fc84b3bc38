use Rattle.wat_expr.proofs.OneReading.{one_written, one_folded}
use Rattle.wat_expr.proofs.laws.one_reading.Goals as goal

pub returns-clause-written : goal.returns-clause-written
returns-clause-written c = one_written

pub returns-clause-folded : goal.returns-clause-folded
returns-clause-folded c = one_folded
