-- The mnemonic of an instruction, from the number of its row.
use Rattle.std.proofs.Common.{◌≡◌, ℕ, ap}
use Rattle.wat_instr.specs.Prelude.{Instruction, Op, op_in, operand_in, instruction_view, there}
use Rattle.wat_instr_uses.specs.Names.{op_uses, instr_uses}
use Rattle.wat_instr_uses.specs.Steps.{op_steps, instr_steps}

pub uses_of : (k : ℕ) (i : Instruction) → instr_uses k (instruction_view i) ≡ op_uses k (op_in i) (operand_in i)
unfolding instr_uses
uses_of k i = ap (λ (h : Op). op_uses k h (operand_in i)) (there (op_in i))

pub steps_of_row : (i : Instruction) → instr_steps (instruction_view i) ≡ op_steps (op_in i) (operand_in i)
unfolding instr_steps
steps_of_row i = ap (λ (h : Op). op_steps h (operand_in i)) (there (op_in i))
