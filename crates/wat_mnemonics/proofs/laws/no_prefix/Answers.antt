use Rattle.wat_mnemonics.proofs.Prefix.{one_opcode}
use Rattle.wat_mnemonics.proofs.laws.no_prefix.Goals as goal

pub returns : goal.returns
returns c = one_opcode
