-- The results of a call that reads an instruction, and the meaning of an error.
use Rattle.std.proofs.Common.{◌≡◌, ◌++◌, inl, ℕ, List, [], ◌∷◌, Option, Some, None, Result, Ok, Err, false, true, refl, ap, sym, ◌∙◌, IfErr}
use Rattle.wat_expr.specs.Prelude.{op_row, Op, Error, by_read, some_is, none_is_not, Gives, Read, some_of, Token, LParen, RParen, plain, InstructionModel, instruction, behind_word, operand, State, read_of, reads_of, Flat, IsHalted, group_state, reads, OpenGroup, open_groups, suits, ReadsBehind, suits_word}
use Rattle.wat_expr.specs.GroupTurn.{GroupTurn, OpensBehind}
use Rattle.wat_expr.specs.Taken.{TakesOp}
use Rattle.wat_mnemonics.specs.Mnemonic.{mnemonic}
use Rattle.wat_instr.specs.Reading.{Puts, PutsWhatIsRead, put_behind}
use Rattle.wat_tokens.specs.Steady.{Steady}
use Rattle.wat_expr.specs.declared.open_groups.Mark.{Mark}
use Rattle.wat_expr.specs.declared.open_groups.Kind.TheVariants as kind

-- ---- taken tokens

pub takes_op : (res : Result Op Error) (ts left : List Token) → Gives (plain (λ h. h)) res (mnemonic.reads ts) left → TakesOp res ts left
unfolding instruction
takes_op (Ok h) ts left g = rw g refl
takes_op (Err e) ts left g = rw (g.0) refl

put_is : (read : Read InstructionModel) (before after : List InstructionModel) (left : List Token) → put_behind before read ≡ Some (after, left) → (i : InstructionModel) × (read ≡ Some (i, left)) × (after ≡ before ++ i ∷ [])
put_is (Some x) before after left e =
    let p = some_is (before ++ x.0 ∷ [], x.1) (after, left) e in
    (x.0, ap (λ (r : List Token). some_of (x.0, r)) (ap (λ (y : List InstructionModel × List Token). y.1) p), sym (ap (λ (y : List InstructionModel × List Token). y.0) p))
put_is None before after left e = none_is_not (after, left) e

pub puts_behind : {X : Type 0} (res : Result X Error) (h : Op) (before after : List InstructionModel) (ts left : List Token) → Puts before after res ((behind_word h).reads ts) left → ReadsBehind h (λ i. after ≡ before ++ i ∷ []) res ts left
puts_behind (Ok x) h before after ts left e = put_is ((behind_word h).reads ts) before after left e
puts_behind (Err e) h before after ts left g = λ n. g.0.0 n

pub refused_keeps : {X : Type 0} (res : Result X Error) (before after : List InstructionModel) (read : Read InstructionModel) (left : List Token) → Puts before after res read left → IfErr res (λ _. after ≡ before)
refused_keeps (Ok x) before after read left e = tt
refused_keeps (Err e) before after read left g = g.1

pub reads_steadily : {X : Type 0} (res : Result X Error) (before after : List InstructionModel) (read : Read InstructionModel) (a b : State) → PutsWhatIsRead before after read res a b → Steady a b
reads_steadily res before after read a b r = record { counts = r.counts.0; stays = (r.cost.0, r.cost.2, r.cost.3); settings = r.settings }

-- ---- consequences for the whole instruction

-- the row of an instruction is the row of its mnemonic
row_is : (h : Op) (i : InstructionModel) (ts left : List Token) → (behind_word h).reads ts ≡ Some (i, left) → i.row ≡ op_row h
row_is h i ts left e =
    by_read ((operand h).reads ts)
    (λ x k. (let p = some_is _ _ (rw k at e) in sym (ap (λ (y : InstructionModel × List Token). y.0.row) p)))
    (λ k. none_is_not (i, left) (rw k at e))

suits_row : (p : Option ℕ) (h : Op) (i : InstructionModel) → i.row ≡ op_row h → suits p i ≡ suits_word p h
suits_row None h i e = refl
suits_row (Some v) h i e = rw e refl

module _ (h : Op) (ts u : List Token) (taken : instruction.reads ts ≡ (behind_word h).reads u) where
  pub read_whole : (i : InstructionModel) (m : List Token) → (behind_word h).reads u ≡ Some (i, m) → reads i ts m
  read_whole i m e = reads_of i ts m (taken ∙ e)

  pub read_suits : (p : Option ℕ) (i : InstructionModel) (m : List Token) → (behind_word h).reads u ≡ Some (i, m) → suits p i ≡ suits_word p h
  read_suits p i m e = suits_row p h i (row_is h i u m e)

  pub read_row : (i : InstructionModel) (m : List Token) → (behind_word h).reads u ≡ Some (i, m) → i.row ≡ op_row h
  read_row i m e = row_is h i u m e

  pub none_whole : (behind_word h).reads u ≡ None → (i : InstructionModel) (m : List Token) → reads i ts m → ⊥
  none_whole none i m r = none_is_not (i, m) (sym none ∙ (sym taken ∙ read_of i ts m r))

  pub none_suited : (p : Option ℕ) → suits_word p h ≡ false → (i : InstructionModel) (m : List Token) → reads i ts m → suits p i ≡ true → ⊥
  none_suited p not i m r s =
      let e = suits_row p h i (row_is h i u m (sym taken ∙ read_of i ts m r)) in cc

-- the tokens begin with no instruction
pub no_instruction : (ts : List Token) → instruction.reads ts ≡ None → (i : InstructionModel) (m : List Token) → reads i ts m → ⊥
no_instruction ts none i m r = none_is_not (i, m) (sym none ∙ read_of i ts m r)

-- no instruction follows the `(`: no group can open, and no group can close
pub no_group_turn : (s : List OpenGroup) (ts u : List Token) (f : Flat) → ts ≡ LParen ∷ u → ((i : InstructionModel) (m : List Token) → reads i u m → ⊥) → IsHalted (group_state s ts f)
no_group_turn s ts u f e never = record {
  opens = λ i a b e2 h. (let q : a ≡ u = cc in never i b (rw q at h));
  closes = λ i h q d k e2. (let bad : LParen ∷ u ≡ RParen ∷ d = sym e ∙ e2 in absurd cc);
}

-- from the opening of a group, or its failure, to the turn
pub group_opens : {A : Type 0} (res : Result A Error) (s t : List OpenGroup) (ts u left : List Token) (f : Flat) → ts ≡ LParen ∷ u → OpensBehind res s t u left → GroupTurn res (group_state s ts f) (group_state t left f)
group_opens (Ok x) s t ts u left f e (i, r, q) = inl (i, u, e, r, q, refl)
group_opens (Err x) s t ts u left f e never = λ n. no_group_turn s ts u f e (never n)

pub opens_behind : {A : Type 0} (res : Result A Error) (h : Op) (m : Mark) (s t : List OpenGroup) (ts u left : List Token) → instruction.reads ts ≡ (behind_word h).reads u → m.hint ≡ None → ReadsBehind h (λ i. t ≡ open_groups (kind.Folded ∷ []) (i ∷ []) (m ∷ []) ++ s) res u left → OpensBehind res s t ts left
opens_behind (Ok x) h m s t ts u left taken unhinted (i, k, q) = (i, read_whole h ts u taken i left k, q ∙ rw unhinted refl)
opens_behind (Err e) h m s t ts u left taken unhinted r = λ n. none_whole h ts u taken (r n)
