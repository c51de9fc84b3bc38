use Rattle.wat_mnemonics.proofs.VectorTables.{opcode_at}
use Rattle.wat_mnemonics.proofs.vector.VectorOp.opcode.Goals as goal

pub returns : goal.returns
returns c = opcode_at c.args.self
