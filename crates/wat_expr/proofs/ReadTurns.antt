-- Turns at an instruction whose operand is read after its mnemonic, and at the end of a group.
use Rattle.std.proofs.Common.{◌≡◌, ◌++◌, ℕ, Bool, true, false, List, [], ◌∷◌, Option, Some, None, Result, Ok, Err, MatchResult, refl, subst, ap, sym, ◌∙◌, codes}
use Rattle.wat_expr.specs.Prelude.{op_row, Op, Error, Memory, Token, LParen, RParen, InstructionModel, instruction, behind_word, is_block, is_if, end_instr, else_instr, Flat, push, sort_of, IsBlock, reads, keyword, OpenGroup, InFolded, InBlock, InIf, AfterThen, AfterElse, InArm, open_groups, IsOpen, TakesPlain, LoopState, Turn, TurnAnswers, Stuck, suits, reads_nothing, ends, ReadsBehind, suits_word}
use Rattle.wat_expr.specs.OpenGroups.{holder, kind_of}
use Rattle.wat_expr.specs.Closed.{Pops, released}
use Rattle.wat_expr.specs.declared.open_groups.Kind.{Kind}
use Rattle.wat_expr.specs.declared.open_groups.Mark.{Mark}
use Rattle.wat_expr.proofs.Instructions.{read_whole, read_suits, read_row, none_whole}
use Rattle.wat_expr.proofs.Turns.{at, inside, put, closed, CanClose, no_plain, turn_plain, turn_group, turn_close, turn_then, turn_else, sort_block, if_close}
use Rattle.wat_expr.specs.declared.open_groups.Kind.TheVariants as kind

-- ---- an instruction

-- if the instruction was read, the turn was made; with an error other than Memory, s is stuck
answers : {A : Type 0} {Then : InstructionModel → Type 0} {s t : LoopState} (h : Op) (u m : List Token) (res : Result A Error) → ReadsBehind h Then res u m → ((i : InstructionModel) → (behind_word h).reads u ≡ Some (i, m) → Then i → Turn s t) → ((behind_word h).reads u ≡ None → Stuck s) → TurnAnswers res s t
answers h u m (Ok x) (i, k, q) made stuck = made i k q
answers h u m (Err e) r made stuck = λ n. stuck (r n)

-- the kind of the opened group is the kind for the sort of the instruction
inside_holder : (b : Bool) (i : InstructionModel) (m : Mark) (s : List OpenGroup) → open_groups (holder b ∷ []) (i ∷ []) (m ∷ []) ++ s ≡ inside (sort_of false b) i m.hint ∷ s
inside_holder true i m s = refl
inside_holder false i m s = refl

put_holder : (b : Bool) (p : Option ℕ) (i : InstructionModel) (f : Flat) → put (sort_of false b) p i f ≡ f
put_holder true p i f = refl
put_holder false p i f = refl

module _ {A : Type 0} (res : Result A Error) (h : Op) (s : List OpenGroup) (p after : Option ℕ) (ts u m : List Token) (f g : Flat) (taken : instruction.reads ts ≡ (behind_word h).reads u) (suited : suits_word p h ≡ true) (gone : after ≡ None) where
  -- an instruction outside parentheses
  pub plain_read : TakesPlain s → (((i : InstructionModel) (n : List Token) → reads i ts n → ⊥) → Stuck (at s p ts f)) → ReadsBehind h (λ i. g ≡ push p i f) res u m → TurnAnswers res (at s p ts f) (at s after m g)
  plain_read a stuck r =
      answers h u m res r
      (λ i k q. turn_plain (Ok (tt {0})) s p after i ts m f g a (read_whole h ts u taken i m k) (read_suits h ts u taken p i m k ∙ suited) gone q)
      (λ none. stuck (none_whole h ts u taken none))

  -- the instruction of a block
  pub block_read : (i : InstructionModel) (new : List OpenGroup) → IsOpen s → is_block (op_row h) ≡ true → (behind_word h).reads u ≡ Some (i, m) → g ≡ push p i f → MatchResult res (λ _. new ≡ InBlock ∷ s) (λ e. e.fault ≡ Memory) → TurnAnswers res (at s p (LParen ∷ ts) f) (at new after m g)
  block_read i new a b k q r =
      turn_group res IsBlock s new p after i ts m f g (sort_block i (ap is_block (read_row h ts u taken i m k) ∙ b)) a (read_whole h ts u taken i m k) (read_suits h ts u taken p i m k ∙ suited) gone q r

  -- an instruction that waits in its group
  pub group_read : (new : List OpenGroup) (mark : Mark) → IsOpen s → is_block (op_row h) ≡ false → mark.hint ≡ p → g ≡ f → (((i : InstructionModel) (n : List Token) → reads i ts n → ⊥) → Stuck (at s p (LParen ∷ ts) f)) → ReadsBehind h (λ i. new ≡ open_groups (holder (is_if (op_row h)) ∷ []) (i ∷ []) (mark ∷ []) ++ s) res u m → TurnAnswers res (at s p (LParen ∷ ts) f) (at new after m g)
  group_read new mark a b hinted same stuck r =
      answers h u m res r
      (λ i k q. turn_group (Ok (tt {0})) (sort_of false (is_if (op_row h))) s new p after i ts m f g (rw (read_row h ts u taken i m k, b) refl) a (read_whole h ts u taken i m k) (read_suits h ts u taken p i m k ∙ suited) gone (same ∙ sym (put_holder (is_if (op_row h)) p i f)) (q ∙ (inside_holder (is_if (op_row h)) i mark s ∙ ap (λ (y : Option ℕ). inside (sort_of false (is_if (op_row h))) i y ∷ s) hinted)))
      (λ none. stuck (none_whole h ts u taken none))

-- an instruction is needed, and something else is next
pub no_plain_here : (s : List OpenGroup) (p : Option ℕ) (ts : List Token) (f : Flat) → ends ts ≡ false → ((d : List Token) → ts ≡ LParen ∷ d → ⊥) → (TakesPlain s → (i : InstructionModel) (m : List Token) → reads i ts m → suits p i ≡ true → ⊥) → Stuck (at s p ts f)
no_plain_here s p ts f more no_group never = no_plain s p ts f no_group (λ n d q. let k = ap ends q in cc) (λ n e. cc) never

-- the text ends in an open group
pub text_ends : (s : List OpenGroup) (p : Option ℕ) (ts : List Token) (f : Flat) → ends ts ≡ true → ((d : List Token) → ts ≡ RParen ∷ d → ⊥) → (s ≡ [] → ⊥) → Stuck (at s p ts f)
text_ends s p [] f e no_close some = no_plain s p [] f (λ d q. cc) (λ n d q. cc) (λ n q. some n) (λ a i m h t. reads_nothing i m h)
text_ends s p (RParen ∷ ts) f e no_close some = absurd (no_close ts refl)
text_ends s p (t ∷ ts) f e no_close some = absurd cc

-- ---- the end of a group

-- the groups that get no `end`, and the groups that get an `end`
abbrev pub ClosesAlone : Kind → Type 0
ClosesAlone kind.Folded = Unit {0}
ClosesAlone kind.Arm = Unit {0}
ClosesAlone _ = ⊥

abbrev pub ClosesWithEnd : Kind → Type 0
ClosesWithEnd kind.Block = Unit {0}
ClosesWithEnd kind.AfterThen = Unit {0}
ClosesWithEnd kind.AfterElse = Unit {0}
ClosesWithEnd _ = ⊥

closes_alone : (l : OpenGroup) → ClosesAlone (kind_of l) → CanClose l × ((f : Flat) → released l f ≡ closed l f)
closes_alone (InFolded i h) a = (tt, λ f. refl)
closes_alone InArm a = (tt, λ f. refl)
closes_alone InBlock a = absurd a
closes_alone (InIf i h) a = absurd a
closes_alone AfterThen a = absurd a
closes_alone AfterElse a = absurd a

closes_with_end : (l : OpenGroup) → ClosesWithEnd (kind_of l) → CanClose l × ((f : Flat) → push None end_instr (released l f) ≡ closed l f)
closes_with_end (InFolded i h) a = absurd a
closes_with_end InArm a = absurd a
closes_with_end InBlock a = (tt, λ f. refl)
closes_with_end (InIf i h) a = absurd a
closes_with_end AfterThen a = (tt, λ f. refl)
closes_with_end AfterElse a = (tt, λ f. refl)

module _ (l : OpenGroup) (k : Kind) (gs s : List OpenGroup) (p : Option ℕ) (m : List Token) (f g : Flat) (none : p ≡ None) (popped : gs ≡ l ∷ s) (is : kind_of l ≡ k) where
  pub close_alone : ClosesAlone k → g ≡ released l f → Turn (at gs p (RParen ∷ m) f) (at s p m g)
  close_alone a e =
      let c = closes_alone l (subst ClosesAlone (sym is) a) in
      turn_close (Ok (tt {0})) l gs s p m f g none popped c.0 (e ∙ c.1 f)

  pub close_with_end : {A : Type 0} (res : Result A Error) (mid : Flat) → ClosesWithEnd k → mid ≡ released l f → MatchResult res (λ _. g ≡ push None end_instr mid) (λ e. e.fault ≡ Memory) → TurnAnswers res (at gs p (RParen ∷ m) f) (at s p m g)
  close_with_end res mid a e r =
      let c = closes_with_end l (subst ClosesWithEnd (sym is) a) in
      turn_close res l gs s p m f g none popped c.0 (rw (e, c.1 f) at r)

-- an `if` without (then
pub close_if : (l : OpenGroup) (gs s : List OpenGroup) (p : Option ℕ) (m : List Token) (f : Flat) → gs ≡ l ∷ s → kind_of l ≡ kind.If → Stuck (at gs p (RParen ∷ m) f)
close_if (InIf i h) gs s p m f e k = if_close gs s p h i m f e
close_if l gs s p m f e k = absurd cc

-- the removed group is the innermost group
taken_off : (k : Kind) (old new s : List OpenGroup) (l : OpenGroup) (f g : Flat) → Pops (Ok k) old new f g → old ≡ l ∷ s → (new ≡ s) × (g ≡ released l f)
taken_off k old new s l f g (m, e2, is, q) e = let same : m ≡ l = cc in (cc, q ∙ ap (λ (y : OpenGroup). released y f) same)

-- (then, in the open group of an `if`
pub then_read : {A : Type 0} (res : Result A Error) (k : Kind) (gs left s new mid : List OpenGroup) (p h : Option ℕ) (i : InstructionModel) (m : List Token) (f g : Flat) → p ≡ None → gs ≡ InIf i h ∷ s → Pops (Ok k) gs left f g → mid ≡ AfterThen ∷ left → MatchResult res (λ _. new ≡ InArm ∷ mid) (λ e. e.fault ≡ Memory) → TurnAnswers res (at gs p (LParen ∷ keyword (codes "then") ∷ m) f) (at new p m g)
then_read res k gs left s new mid p h i m f g none e o n r =
    let x = taken_off k gs left s (InIf i h) f g o e in
    turn_then res gs s new mid p h i m f g none e x.1 (n ∙ ap (λ (y : List OpenGroup). AfterThen ∷ y) x.0) r

pub else_read : {A : Type 0} (res : Result A Error) (k : Kind) (gs left s new : List OpenGroup) (p : Option ℕ) (ts m : List Token) (f mid g : Flat) → p ≡ None → gs ≡ AfterThen ∷ s → ts ≡ keyword (codes "else") ∷ m → Pops (Ok k) gs left f mid → new ≡ InArm ∷ AfterElse ∷ left → MatchResult res (λ _. g ≡ push None else_instr mid) (λ e. e.fault ≡ Memory) → TurnAnswers res (at gs p (LParen ∷ ts) f) (at new p m g)
else_read res k gs left s new p ts m f mid g none e taken o n r =
    let x = taken_off k gs left s AfterThen f mid o e in
    turn_else res gs s new p ts m f g none e taken (n ∙ ap (λ (y : List OpenGroup). InArm ∷ AfterElse ∷ y) x.0) (subst (λ (y : Flat). MatchResult res (λ _. g ≡ push None else_instr y) (λ e. e.fault ≡ Memory)) x.1 r)
