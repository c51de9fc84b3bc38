use Rattle.wat_format.proofs.Cutting.{same_cut}
use Rattle.wat_format.proofs.laws.same_tokens.Goals as goal

pub returns : goal.returns
returns c = same_cut
