use Rattle.wat_masked.proofs.Chars.{integer_float}
use Rattle.wat_masked.proofs.laws.integers.Goals as goal

pub returns : goal.returns
returns c = integer_float
