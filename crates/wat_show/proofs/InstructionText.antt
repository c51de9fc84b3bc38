-- The listing of an instruction.
use Rattle.std.proofs.Common.{◌≡◌, ◌++◌, ap}
use Rattle.wat_core.specs.Prelude.{Op, Operand}
use Rattle.wat_show.specs.Prelude.{op_word, Instruction, op_in, operand_in, instruction_view, instr_text, shown_operand}
use Rattle.wat_instr.specs.Instruction.{instr_of}
use Rattle.wat_show.specs.Expressions.{headed_text}
use Rattle.wat_mnemonics.specs.Laws.TableIndex.{there}

-- the row of the instruction has the mnemonic
pub instr_text_is : (h : Op) (o : Operand) → instr_text (instr_of h o) ≡ headed_text h o
unfolding instr_text
instr_text_is h o = ap (λ (x : Op). headed_text x o) (there h)

pub instruction_text : (i : Instruction) → instr_text (instruction_view i) ≡ op_word (op_in i) ++ shown_operand (op_in i) (operand_in i)
instruction_text i = instr_text_is (op_in i) (operand_in i)
