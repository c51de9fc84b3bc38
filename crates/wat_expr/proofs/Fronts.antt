-- The first tokens of a list of items, and the tokens after the list.
use Rattle.std.proofs.Common.{◌≡◌, List, [], ◌∷◌, ap, sym, ◌∙◌}
use Rattle.wat_expr.specs.Prelude.{Token, LParen, RParen, Keyword, some_is, InstructionModel, Sort, sort, reads, hint_name, read_of, word_front, reads_nothing, reads_not_then, Stops}

-- ---- instructions

-- the tokens determine the instruction and the rest
pub reads_one : (i j : InstructionModel) (ts m n : List Token) → reads i ts m → reads j ts n → (i ≡ j) × (m ≡ n)
reads_one i j ts m n h k =
    let e = some_is (i, m) (j, n) (sym (read_of i ts m h) ∙ read_of j ts n k) in
    (ap (λ (x : InstructionModel × List Token). x.0) e, ap (λ (x : InstructionModel × List Token). x.1) e)

-- ---- the end of a list of items

pub stops_at : (ts r : List Token) → ts ≡ r → Stops r → Stops ts
stops_at ts r e s = rw e s

pub stops_no_word : (i : InstructionModel) (ts m : List Token) → reads i ts m → Stops ts → ⊥
stops_no_word i [] m h s = reads_nothing i m h
stops_no_word i (LParen ∷ ts) m h s = word_front i LParen ts m h
stops_no_word i (RParen ∷ ts) m h s = word_front i RParen ts m h
stops_no_word i (Keyword w ∷ ts) m h s = s
stops_no_word i (t ∷ ts) m h s = word_front i t ts m h

pub stops_no_group : (i : InstructionModel) (a m : List Token) → reads i a m → Stops (LParen ∷ a) → ⊥
stops_no_group i [] m h s = reads_nothing i m h
stops_no_group i (Keyword w ∷ ts) m h s = reads_not_then i ts m (rw s at h)
stops_no_group i (t ∷ ts) m h s = word_front i t ts m h

-- tokens that spell an instruction do not begin with `(`
pub no_paren : (i : InstructionModel) (ts a m : List Token) → reads i ts m → ts ≡ LParen ∷ a → ⊥
no_paren i ts a m h e = word_front i LParen a m (rw e at h)

pub same_group : (i j : InstructionModel) (a b a2 b2 : List Token) → LParen ∷ a ≡ LParen ∷ a2 → reads i a b → reads j a2 b2 → (j ≡ i) × (b2 ≡ b)
same_group i j a b a2 b2 e h k =
    let e2 : a2 ≡ a = cc in reads_one j i a b2 b (rw e2 at k) h

-- one instruction has one sort
pub one_sort : (i j : InstructionModel) (k l : Sort) → j ≡ i → sort i ≡ k → sort j ≡ l → k ≡ l
one_sort i j k l e h g = cc

-- the annotation of a hint begins no instruction
pub no_hint_word : (i : InstructionModel) (a b d : List Token) → LParen ∷ a ≡ LParen ∷ hint_name ∷ d → reads i a b → ⊥
no_hint_word i a b d e h =
    let e2 : a ≡ hint_name ∷ d = cc in word_front i hint_name d b (rw e2 at h)
