use Rattle.wat_masked.proofs.Seen as hidden
use Rattle.wat_masked.proofs.laws.same_visible.Goals as goal

pub returns : goal.returns
returns c = hidden.same_visible
