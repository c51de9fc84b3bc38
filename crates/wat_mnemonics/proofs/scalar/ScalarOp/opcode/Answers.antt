use Rattle.wat_mnemonics.proofs.ScalarTables.{opcode_at}
use Rattle.wat_mnemonics.proofs.scalar.ScalarOp.opcode.Goals as goal

pub returns : goal.returns
returns c = opcode_at c.args.self
