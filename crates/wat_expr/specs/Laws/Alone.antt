-- Laws: expressions of one plain instruction.
use Rattle.std.proofs.Common.{◌≡◌, true, List, [], ◌∷◌, ◌++◌, codes, Some, refl, ap, append_assoc}
use Rattle.wat_expr.specs.Prelude.{ends, in_parens, Token, LParen, RParen, Keyword, InstructionModel, instruction, instruction_read, operand, NoGroup, IsOther, sort, Nil, Plain, Folded, expression, nop, folded_instruction}
use Rattle.wat_expr.specs.Alone.{alone}
use Rattle.wat_mnemonics.specs.declared.op.Op.TheVariants as word
use Rattle.wat_mnemonics.specs.declared.scalar.ScalarOp.TheVariants as scalar
use Rattle.wat_instr.specs.Operand as operands

-- if an instruction and then an end are read, the expression is that instruction
pub alone_read : (i : InstructionModel) (c r : List Token)
    → instruction.reads (c ++ r) ≡ Some (i, r)
    → ends r ≡ true → expression.reads (c ++ r) ≡ Some (alone i, r)
unfolding expression
alone_read i c r e k =
    expression.complete (alone i) c r
    (Plain i Nil, (r, instruction.sound (c ++ r) (i, r) e, refl), k, refl)

abbrev pub nop_text : List Token
nop_text = Keyword (codes "nop") ∷ []

-- `nop` before an end
pub nop_read : (r : List Token) → ends r ≡ true
    → expression.reads (nop_text ++ r) ≡ Some (alone nop, r)
unfolding operand
nop_read r k =
    alone_read nop nop_text r
    (instruction_read (word.Scalar scalar.nop) (codes "nop") refl operands.nothing r r refl) k

-- if an instruction that opens no block is alone in a group, and an end follows, the expression is
-- that instruction
pub grouped_read : (i : InstructionModel) (c r : List Token)
    → instruction.reads (c ++ RParen ∷ r) ≡ Some (i, RParen ∷ r) → sort i ≡ IsOther → ends r ≡ true
    → expression.reads (in_parens c ++ r) ≡ Some (alone i, r)
unfolding expression
grouped_read i c r e s k =
    let front = instruction.sound (c ++ RParen ∷ r) (i, RParen ∷ r) e in
    expression.complete (alone i) (in_parens c) r (
      Folded i Nil Nil,
      (
        c ++ RParen ∷ r,
        RParen ∷ r,
        r,
        ap (λ (u : List Token). LParen ∷ u) (append_assoc c (RParen ∷ []) r),
        s,
        front,
        refl,
        refl,
      ),
      k,
      refl,
    )

-- if an instruction is alone in a group, the folded instruction is that instruction
pub folded_read : (i : InstructionModel) (c r : List Token)
    → instruction.reads (c ++ RParen ∷ r) ≡ Some (i, RParen ∷ r)
    → folded_instruction.reads (in_parens c ++ r) ≡ Some (alone i, r)
unfolding folded_instruction
folded_read i c r e =
    let front = instruction.sound (c ++ RParen ∷ r) (i, RParen ∷ r) e in
    folded_instruction.complete (alone i) (in_parens c) r (
      i,
      NoGroup,
      (
        c ++ RParen ∷ r,
        RParen ∷ r,
        ap (λ (u : List Token). LParen ∷ u) (append_assoc c (RParen ∷ []) r),
        front,
        refl,
      ),
      refl,
    )
