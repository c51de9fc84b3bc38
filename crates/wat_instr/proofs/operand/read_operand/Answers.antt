use Rattle.std.proofs.Common.{rules}
use Rattle.wat_instr.proofs.Operands.{refused_operand}
use Rattle.wat_instr.proofs.operand.read_operand.Goals as goal

pub returns-in-Err : goal.returns-in-Err
returns-in-Err g c =
    refused_operand ((g.met.T.OperandOf c.lifetimes (search rules)).is_operand c.args.op) c.args.parser.now c.parse.new.parser c.in-Err.refused (g.P.Sink.seen c.args.out.now) c.in-Err.ensures.reads
