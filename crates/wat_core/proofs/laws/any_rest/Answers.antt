use Rattle.wat_core.proofs.AnyRest.{any_rest}
use Rattle.wat_core.proofs.Ends.{spelled_ends}
use Rattle.wat_core.proofs.laws.any_rest.Goals as goal

pub returns-clause-same : goal.returns-clause-same
returns-clause-same c = any_rest

pub returns-clause-ends : goal.returns-clause-ends
returns-clause-ends c = spelled_ends
