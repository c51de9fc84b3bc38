use Rattle.wat_masked.proofs.MaskedText as masked
use Rattle.wat_masked.proofs.laws.one_masked.Goals as goal

pub returns-clause-some : goal.returns-clause-some
returns-clause-some c = masked.is_masked

pub returns-clause-one : goal.returns-clause-one
returns-clause-one c = masked.one_masked

pub returns-clause-size : goal.returns-clause-size
returns-clause-size c = masked.same_size_masked
