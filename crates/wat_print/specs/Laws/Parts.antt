-- Laws: the tokens that are written for parts of productions spell these parts.
use Rattle.std.proofs.Common.{◌≡◌, ℕ, Bool, true, false, ◌&&◌, List, [], ◌∷◌, ◌++◌, Some, None, flat_map, refl, subst, sym, append_assoc, ap, ◌∙◌}
use Rattle.wat_types.specs.Prelude.{bytes_eq, and_parts, and_assoc, Token, LParen, RParen, Keyword, Annotation, begins_word, Production, word, flag, all_of, in_parens}
use Rattle.wat_print.specs.WellFormed.{is_printable, is_keyword, WellFormed, nothing, token}
use Rattle.wat_print.specs.Parts.{spell_flag, each}
use Rattle.wat_print.specs.WellFormed as well_formed

-- the tokens spell the value before any rest
abbrev pub Spells : {A : Type 0} → Production A → A → List Token → Type 0
Spells g v c = (r : List Token) → g.spells v c r

pub word_here : (w : List ℕ) → bytes_eq w w ≡ true → Spells (word w) tt (Keyword w ∷ [])
word_here w e r = (Keyword w, refl, rw e refl)

pub flag_here : (w : List ℕ) (b : Bool) (r : List Token) → bytes_eq w w ≡ true
    → begins_word w r ≡ false
    → (flag w).spells b (spell_flag w b) r
flag_here w true r e f = (Some tt, (e, word_here w e r), refl, refl)
flag_here w false r e f = (None, (refl, f), refl, refl)

-- ---- tokens that can be written

pub well_formed_both : (a b : List Token) → WellFormed a → WellFormed b → WellFormed (a ++ b)
well_formed_both a b nothing n = n
well_formed_both a b (token t r h m) n = token t (r ++ b) h (well_formed_both r b m n)
well_formed_both a b (well_formed.group c r m k) n =
    subst (λ (l : List Token). WellFormed (LParen ∷ l)) (sym (append_assoc c (RParen ∷ r) b))
    (well_formed.group c (r ++ b) m (well_formed_both r b k n))
well_formed_both a b (well_formed.noted x c r h e m k) n =
    subst (λ (l : List Token). WellFormed (LParen ∷ (Annotation x ∷ l)))
    (sym (append_assoc c (RParen ∷ r) b))
    (well_formed.noted x c (r ++ b) h e m (well_formed_both r b k n))

pub well_formed_one : (t : Token) → is_printable t ≡ true → WellFormed (t ∷ [])
well_formed_one t h = token t [] h nothing

pub well_formed_word : (w : List ℕ) (d : List Token) → is_keyword w ≡ true → WellFormed d
    → WellFormed (Keyword w ∷ d)
well_formed_word w d h n = token (Keyword w) d h n

pub well_formed_paren : (d : List Token) → WellFormed d → WellFormed (in_parens d)
well_formed_paren d n = well_formed.group d [] n nothing

pub well_formed_each : {A : Type 0} (spell : A → List Token) (ok : A → Bool)
    → ((v : A) → ok v ≡ true → WellFormed (spell v))
    → (vs : List A) → each ok vs ≡ true → WellFormed (flat_map spell vs)
well_formed_each spell ok n [] o = nothing
well_formed_each spell ok n (v ∷ vs) o =
    let p = and_parts (ok v) (each ok vs) o in
    well_formed_both (spell v) (flat_map spell vs) (n v p.0) (well_formed_each spell ok n vs p.1)

pub well_formed_flag : (w : List ℕ) (b : Bool) → is_keyword w ≡ true → WellFormed (spell_flag w b)
well_formed_flag w true h = well_formed_one (Keyword w) h
well_formed_flag w false h = nothing

-- ---- lists

pub each_append : {A : Type 0} (test : A → Bool) (vs ws : List A)
    → each test (vs ++ ws) ≡ (each test vs && each test ws)
each_append test [] ws = refl
each_append test (v ∷ vs) ws =
    ap (λ (b : Bool). test v && b) (each_append test vs ws)
    ∙ sym (and_assoc (test v) (each test vs) (each test ws))

pub each_both : {A : Type 0} (test : A → Bool) (vs ws : List A) → each test vs ≡ true
    → each test ws ≡ true → each test (vs ++ ws) ≡ true
each_both test vs ws f g = rw (each_append test vs ws, f, g) refl

pub each_front : {A : Type 0} (test : A → Bool) (vs ws : List A) → each test (vs ++ ws) ≡ true
    → (each test vs ≡ true) × (each test ws ≡ true)
each_front test vs ws f =
    and_parts (each test vs) (each test ws) (sym (each_append test vs ws) ∙ f)

-- each part of each group passes the test
pub each_all : {A : Type 0} (test : A → Bool) (gs : List (List A))
    → each (λ g. each test g) gs ≡ true
    → each test (all_of gs) ≡ true
each_all test [] h = refl
each_all test (g ∷ gs) h =
    let p = and_parts (each test g) (each (λ g. each test g) gs) h in
    each_both test g (all_of gs) p.0 (each_all test gs p.1)

pub and_also : (b : Bool) → b ≡ true → b && true ≡ true
and_also b h = rw h refl
