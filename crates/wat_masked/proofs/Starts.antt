-- Texts whose first bytes are equal, or are both idchars.
use Rattle.std.proofs.Common.{◌≡◌, ℕ, ◌<◌, List, [], ◌∷◌, ◌++◌, length, refl, sym, ◌∙◌, subst, arith, inl, inr, Bool, true, false, not, ◌==◌, ◌⊎◌}
use Rattle.wat_lexer.specs.Laws.Prelude.{nat_tests, is_idchar, is_line_end, Blank, space, line, block, IsToken, Begins, in_no_run, is_integer, Token, LParen, RParen, Keyword, Id, Annotation, Integer, String, Reserved, no_integer, idchar_no_mark}

abbrev pub SameStart : List ℕ → List ℕ → Type 0
SameStart [] [] = Unit {0}
SameStart [] (b ∷ _) = ⊥
SameStart (a ∷ _) [] = ⊥
SameStart (a ∷ _) (b ∷ _) = (a ≡ b) ⊎ ((is_idchar a ≡ true) × (is_idchar b ≡ true))

begins : (test : ℕ → Bool) → ((a b : ℕ) → is_idchar a ≡ true → is_idchar b ≡ true → test a ≡ true → test b ≡ true) → (s z : List ℕ) → SameStart s z → Begins test s → Begins test z
begins test moves [] [] h k = tt
begins test moves [] (b ∷ z) h k = absurd h
begins test moves (a ∷ s) [] h k = absurd h
begins test moves (a ∷ s) (b ∷ z) (inl e) k = subst (λ n. test n ≡ true) e k
begins test moves (a ∷ s) (b ∷ z) (inr (i, j)) k = moves a b i j k

run_no : (b : ℕ) → is_idchar b ≡ true → in_no_run b ≡ true → ⊥
run_no b h k = let f : in_no_run b ≡ false = rw h refl in let e : false ≡ true = sym f ∙ k in cc

line_no : (b : ℕ) → is_idchar b ≡ true → is_line_end b ≡ true → ⊥
line_no b h k = grind (arith, nat_tests, h, k)

pub ends_run : (s z : List ℕ) → SameStart s z → Begins in_no_run s → Begins in_no_run z
ends_run = begins in_no_run (λ a b i j k. absurd (run_no a i k))

pub blank_same : (x s z : List ℕ) → SameStart s z → Blank x s → Blank x z
blank_same x s z h (space b r k) = space b z k
blank_same x s z h (line y r all ends) = line y z all (begins is_line_end (λ a b i j k. absurd (line_no a i k)) s z h ends)
blank_same x s z h (block y r k) = block y z k

pub token_same : (behind : Bool) (x s z : List ℕ) (t : Token) → SameStart s z → IsToken behind x s t → IsToken behind x z t
token_same behind x s z LParen h (e, k) = (e, begins (λ b. not (b == 59)) (λ a b i j k. idchar_no_mark b j) s z h k)
token_same behind x s z RParen h k = k
token_same behind x s z (Reserved n) h (e, l, r, k, c) = (e, l, r, ends_run s z h k, c)
token_same behind x s z (Keyword n) h (r, k, c) = (r, ends_run s z h k, c)
token_same behind x s z (Id n) h (r, k, c) = (r, ends_run s z h k, c)
token_same behind x s z (Annotation n) h (r, k, c) = (r, ends_run s z h k, c)
token_same behind x s z (Integer n) h (r, k, c) = (r, ends_run s z h k, c)
token_same behind x s z (String n) h (r, k, c) = (r, ends_run s z h k, c)

-- the bytes of a blank or a token: at least one byte
abbrev pub Some_bytes : List ℕ → Type 0
Some_bytes x = (b : ℕ) × (y : List ℕ) × (x ≡ b ∷ y)

pub some_of : (x : List ℕ) → 0 < length x → Some_bytes x
some_of [] h = absurd (omega arith)
some_of (b ∷ y) h = (b, y, refl)

integer_some : (x : List ℕ) → is_integer x ≡ true → Some_bytes x
integer_some [] h = let e : false ≡ true = sym no_integer ∙ h in cc
integer_some (b ∷ y) h = (b, y, refl)

pub blank_some : (x s : List ℕ) → Blank x s → Some_bytes x
blank_some x s (space b r k) = (b, [], refl)
blank_some x s (line y r all ends) = (59, 59 ∷ y, refl)
blank_some x s (block y r k) = (40, 59 ∷ y, refl)

pub token_some : (behind : Bool) (x s : List ℕ) (t : Token) → IsToken behind x s t → Some_bytes x
token_some behind x s LParen (e, k) = (40, [], e)
token_some behind x s RParen e = (41, [], e)
token_some behind x s (Reserved n) (e, l, r, k, c) = some_of x l
token_some behind x s (Keyword n) (r, k, (e, all, b, y, is, small)) = (b, y, is)
token_some behind x s (Id n) (r, k, (y, is, m, l)) = (36, y, is)
token_some behind x s (Annotation n) (r, k, (o, (y, is, m, l))) = (64, y, is)
token_some behind x s (Integer n) (r, k, (e, all, i)) = integer_some x i
token_some behind x s (String n) (r, k, (y, is, m)) = (34, y, is)

same_cons : (b : ℕ) (x y s z : List ℕ) → x ≡ b ∷ y → SameStart (x ++ s) (x ++ z)
same_cons b x y s z e = rw e (inl refl)

pub start_behind : (x s z : List ℕ) → Some_bytes x → SameStart (x ++ s) (x ++ z)
start_behind x s z (b, y, e) = same_cons b x y s z e
