use Rattle.wat_masked.proofs.Again as again
use Rattle.wat_masked.proofs.laws.all_replaced.Goals as goal

pub returns : goal.returns
returns c = again.all_replaced
