use Rattle.wat_masked.proofs.Tokens.{same_length}
use Rattle.wat_masked.proofs.laws.same_number.Goals as goal

pub returns : goal.returns
returns c = same_length
