-- Expressions of one plain instruction.
use Rattle.std.specs.Prelude.{[], ◌∷◌}
use Rattle.wat_instr.specs.Instruction.{InstructionModel, instr_of}
use Rattle.wat_expr.specs.Expression.{ExpressionModel}
use Rattle.wat_mnemonics.specs.declared.op.Op.TheVariants as word
use Rattle.wat_mnemonics.specs.declared.scalar.ScalarOp.TheVariants as scalar
use Rattle.wat_instr.specs.Operand as operands

abbrev pub alone : InstructionModel → ExpressionModel
alone i = record { instrs = i ∷ []; hints = [] }

abbrev pub nop : InstructionModel
nop = instr_of (word.Scalar scalar.nop) operands.nothing
