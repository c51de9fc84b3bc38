-- Laws: the tokens that are written for an operand begin with no word that the parser looks for
-- after the word of an instruction.
use Rattle.std.proofs.Common.{◌≡◌, ℕ, ◌==◌, Bool, true, false, not, List, [], ◌∷◌, ◌++◌, codes, rules, refl, subst, append-nil, inl, inr}
use Rattle.wat_expr.specs.Prelude.{cases_Bool, bytes_eq-Decides, not-true}
use Rattle.wat_print_instr.specs.Prelude.{list_any, bytes_eq, Token, Keyword, begins_word, abstract_word, AbstractHeapType, Op, Operand, short_word, Test, any, operand_form}
use Rattle.wat_print.specs.Laws.Form.{passes_of}
use Rattle.wat_print_instr.specs.Laws.Instruction.{operand_prints, operand_ready}
use Rattle.wat_types.specs.declared.heap.AbstractHeapType.TheVariants as words
use Rattle.wat_mnemonics.specs.declared.op.Op.TheVariants as ops

-- ---- the words that are written in operands

-- the word begins with a letter that begins some word in an operand
abbrev pub begins_operand : List ℕ → Bool
begins_operand [] = false
begins_operand (c ∷ w) = list_any (λ x. x == c) (codes "acefinos")

-- the word begins with another letter, so the word is in no operand
abbrev pub NoOperandWord : List ℕ → Type 0
NoOperandWord w = begins_operand w ≡ false

heap_begins : (t : AbstractHeapType) → begins_operand (abstract_word t) ≡ true
heap_begins words.Func = refl
heap_begins _ = refl

short_begins : (t : AbstractHeapType) → begins_operand (short_word t) ≡ true
short_begins words.Func = refl
short_begins _ = refl

-- ---- one list of tokens after another

pub clear_both : (w : List ℕ) (c d : List Token) → begins_word w c ≡ false
    → begins_word w d ≡ false → begins_word w (c ++ d) ≡ false
clear_both w [] d e f = f
clear_both w (Keyword k ∷ c) d e f = e
clear_both w (_ ∷ c) d e f = refl

module _ (w : List ℕ) (a : NoOperandWord w) where
  word_apart : (v : List ℕ) → begins_operand v ≡ true → bytes_eq v w ≡ false
  word_apart v e =
      elim (cases_Bool (bytes_eq v w)) [
        | inl h ↦ let f = rw ((bytes_eq-Decides v w).0 h) at e in absurd cc
        | inr h ↦ h
      ]

  pub short_apart : (t : AbstractHeapType) → bytes_eq (short_word t) w ≡ false
  short_apart t = word_apart (short_word t) (short_begins t)

  abbrev clear : Test
  clear t = not (begins_word w t)

  word_clear : (v : List ℕ) → begins_operand v ≡ true → not (bytes_eq v w) ≡ true
  word_clear v e = rw (word_apart v e) refl

  operand_fronts : (h : Op) → (operand_form h).Fronts any clear
  operand_fronts (ops.Block op) = search rules
  operand_fronts _ = search (rules, word_clear, heap_begins, short_begins)

  pub operand_clear : (h : Op) (o : Operand) → (operand_form h).printable o ≡ true
      → begins_word w ((operand_form h).spell o) ≡ false
  operand_clear h o f =
      let c = (operand_form h).spell o in
      subst (λ (x : List Token). begins_word w x ≡ false) (append-nil c)
      (not-true (begins_word w (c ++ []))
      ((operand_prints h).front any clear (operand_fronts h) o [] (operand_ready h o f) refl
      (passes_of (operand_form h).empty clear [] refl)))
