-- Laws: the first token of an instruction.
use Rattle.std.proofs.Common.{◌≡◌, ℕ, ◌≤◌, List, [], ◌∷◌, ◌++◌, codes, Some, None, refl, ap, ◌∙◌, arith}
use Rattle.wat_mnemonics.specs.Prelude.{Token, Keyword, bind_some, op_word, mnemonic_of, mnemonic_reads, op_of_word}
use Rattle.wat_mnemonics.specs.Laws.Word.{mnemonic_sound}
use Rattle.wat_mnemonics.specs.declared.op.Op.{Op}
use Rattle.wat_instr.specs.Instruction.{InstructionModel, instr_of, behind_word, instruction}
use Rattle.wat_instr.specs.Operand.{Operand, operand}

-- no instruction is read from the empty list of tokens
pub instruction_none : instruction.reads [] ≡ None
unfolding instruction
instruction_none = refl

-- an instruction takes at least one token
pub instruction_consumes : 1 ≤ instruction.least
unfolding instruction
instruction_consumes = omega arith

-- the first token is a keyword
pub instruction_first : (t : List Token) (x : InstructionModel × List Token)
    → instruction.reads t ≡ Some x
    → (w : List ℕ) × (r : List Token) × (t ≡ Keyword w ∷ r)
unfolding instruction
instruction_first t x e =
    let p = bind_some (mnemonic_reads t) (λ h u. (behind_word h).reads u) x e in
    let y = mnemonic_sound t p.0 p.1 in
    (op_word p.0.0, p.0.1, y.1 ∙ ap (λ (u : List Token). u ++ p.0.1) y.2)

then_is_none : mnemonic_of (codes "then") ≡ None
unfolding mnemonic_of
then_is_none = refl

-- `then` is not a mnemonic
pub instruction_not_then : (t : List Token) → instruction.reads (Keyword (codes "then") ∷ t) ≡ None
unfolding instruction
instruction_not_then t = rw then_is_none refl

-- a mnemonic, and the operand after the mnemonic, are read as the instruction
pub instruction_read : (h : Op) (w : List ℕ) → op_word h ≡ w
    → (o : Operand) (t r : List Token)
    → (operand h).reads t ≡ Some (o, r)
    → instruction.reads (Keyword w ∷ t) ≡ Some (instr_of h o, r)
unfolding instruction
instruction_read h w k o t r e = rw (op_of_word h w k) (rw e refl)
