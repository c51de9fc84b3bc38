-- The changes that fit a token, and the changes of tokens, which fit them.
use Rattle.std.proofs.Common.{◌≡◌, ℕ, ◌<◌, List, [], ◌∷◌, length, refl, sym, ◌∙◌, arith, Bool, true, false, ◌&&◌, if◌then◌else◌, Option, None, Some}
use Rattle.wat_masked.specs.Prelude.{IsToken, Begins, in_no_run, Idchars, begins_hidden_group, visible_tokens, shuts, deeper, Token, LParen, RParen, Keyword, Id, Annotation, Integer, String, Reserved, is_open, is_float, state_after, is_literal, begins_literal, is_float_word, change_of, is_changed, changes}
use Rattle.wat_masked.specs.Tokens.{bytes_of}
use Rattle.wat_masked.proofs.Chars.{float_idchars}
use Rattle.wat_masked.specs.declared.change.Change.{Change}
use Rattle.wat_lexer.specs.Laws.Cases.{if_either}
use Rattle.wat_masked.specs.declared.change.Change.TheVariants as of

abbrev pub Fits : Change → Token → Type 0
Fits of.Keep t = Unit {0}
Fits of.Word t = (opened : Bool) × (is_float_word opened t ≡ true)
Fits (of.Literal n) t = (n ≡ length (bytes_of t)) × (is_literal t ≡ true)

picked : (a l w b opened : Bool) (t : Token) → is_literal t ≡ l → is_float_word opened t ≡ w → Fits (if a && l then of.Literal (length (bytes_of t)) else (if w && b then of.Word else of.Keep)) t
picked true true w b opened t h k = (refl, h)
picked true false true true opened t h k = (opened, k)
picked true false true false opened t h k = tt
picked true false false b opened t h k = tt
picked false l true true opened t h k = (opened, k)
picked false l true false opened t h k = tt
picked false l false b opened t h k = tt

pub fits : (opened row followed : Bool) (t : Token) → Fits (change_of opened row followed t) t
fits opened row followed t = picked row (is_literal t) (is_float_word opened t) followed opened t refl refl

-- each change fits its token
abbrev pub AllFit : List Change → List Token → Type 0
AllFit [] [] = Unit {0}
AllFit [] (t ∷ ts) = ⊥
AllFit (c ∷ cs) [] = ⊥
AllFit (c ∷ cs) (t ∷ ts) = Fits c t × AllFit cs ts

pub all_fit : (opened row : Bool) (state : Option ℕ) (ts : List Token) → AllFit (changes opened row state ts) ts
unfolding changes
all_fit opened row state [] = tt
all_fit opened row None (t ∷ ts) =
    let change = change_of opened row (begins_literal (visible_tokens false ts)) t in
    if_either (λ cs. AllFit cs (t ∷ ts)) (begins_hidden_group false (t ∷ ts)) _ _
    (λ _. (tt, all_fit opened row (Some 0) ts))
    (λ _. (fits opened row (begins_literal (visible_tokens false ts)) t, all_fit (is_open t) (is_changed change) None ts))
all_fit opened row (Some depth) (t ∷ ts) = (tt, all_fit opened row (if shuts t depth then None else Some (deeper t depth)) ts)

none_float : is_float [] ≡ false
unfolding is_float state_after
none_float = refl

pub float_some : (k : List ℕ) → is_float k ≡ true → 0 < length k
float_some [] h = let e : false ≡ true = sym none_float ∙ h in cc
float_some (b ∷ y) h = omega arith

-- the bytes of a word or a literal
pub record Plain (x rest : List ℕ) (t : Token) : Type 0 where
  pub bytes : x ≡ bytes_of t
  pub all : Idchars x
  pub some : 0 < length x
  pub ends : Begins in_no_run rest
  pub shut : is_open t ≡ false

pub no_literal : (A : Type 0) → is_float [] ≡ true → A
no_literal A h = let e : false ≡ true = sym none_float ∙ h in cc

some_cons : (x y : List ℕ) (b : ℕ) → x ≡ b ∷ y → 0 < length x
some_cons x y b e = rw e (omega arith)

pub literal_plain : (behind : Bool) (x rest : List ℕ) (t : Token) → is_literal t ≡ true → IsToken behind x rest t → Plain x rest t
literal_plain behind x rest LParen h k = no_literal (Plain x rest LParen) h
literal_plain behind x rest RParen h k = no_literal (Plain x rest RParen) h
literal_plain behind x rest (Id n) h k = no_literal (Plain x rest (Id n)) h
literal_plain behind x rest (Annotation n) h k = no_literal (Plain x rest (Annotation n)) h
literal_plain behind x rest (String n) h k = no_literal (Plain x rest (String n)) h
literal_plain behind x rest (Keyword n) h (r, k, (e, all, b, y, is, m)) = record { bytes = e; all = all; some = rw e (float_some n h); ends = k; shut = refl }
literal_plain behind x rest (Integer n) h (r, k, (e, all, m)) = record { bytes = e; all = all; some = rw e (float_some n h); ends = k; shut = refl }
literal_plain behind x rest (Reserved n) h (e, l, r, k, m) = record { bytes = e; all = rw e (float_idchars n h); some = l; ends = k; shut = refl }

pub word_plain : (behind opened : Bool) (x rest : List ℕ) (t : Token) → is_float_word opened t ≡ true → IsToken behind x rest t → (k : List ℕ) × (t ≡ Keyword k) × Plain x rest t
word_plain behind opened x rest (Keyword n) h (r, k, (e, all, b, y, is, m)) = (n, refl, record { bytes = e; all = all; some = some_cons x y b is; ends = k; shut = refl })
word_plain behind opened x rest LParen h k = absurd (let e : false ≡ true = h in cc)
word_plain behind opened x rest RParen h k = absurd (let e : false ≡ true = h in cc)
word_plain behind opened x rest (Id n) h k = absurd (let e : false ≡ true = h in cc)
word_plain behind opened x rest (Annotation n) h k = absurd (let e : false ≡ true = h in cc)
word_plain behind opened x rest (String n) h k = absurd (let e : false ≡ true = h in cc)
word_plain behind opened x rest (Integer n) h k = absurd (let e : false ≡ true = h in cc)
word_plain behind opened x rest (Reserved n) h k = absurd (let e : false ≡ true = h in cc)
