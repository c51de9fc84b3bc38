-- Laws: tokens that are well formed in parentheses are read again, such as those that begin with
-- an annotation.
use Rattle.std.proofs.Common.{rules, subst, ◌≡◌, ℕ, ◌<◌, Bool, true, List, [], ◌∷◌, slice_index, false, zero, suc, nat_lt, refl}
use Rattle.wat_types.specs.Prelude.{and_parts, ltb-true, is_utf8-from_IsUtf8, IsUtf8-from_ascii, annotation}
use Rattle.wat_print.specs.Prelude.{bytes_eq, is_standard, Token, Annotation, Production, Form, Nests, Unparses, Inside, all_are, is_name, WellFormed, nothing, noted, annotation_form}
use Rattle.wat_tokens.specs.Parts.{annotation_token}
use Rattle.wat_print.specs.Laws.Form.{led_prints}
use Rattle.wat_print.specs.Laws.Parts.{well_formed_paren}

-- ---- names of annotations

-- ASCII, and not empty
abbrev pub is_ascii_name : List ℕ → Bool
is_ascii_name [] = false
is_ascii_name (b ∷ r) = all_are (λ c. nat_lt c 128) (b ∷ r)

ascii_at : (x : List ℕ) → all_are (λ c. nat_lt c 128) x ≡ true → (i : ℕ) → slice_index x i < 128
ascii_at [] h i = search (rules)
ascii_at (b ∷ x) h zero =
    ltb-true b 128 (and_parts (nat_lt b 128) (all_are (λ c. nat_lt c 128) x) h).0
ascii_at (b ∷ x) h (suc i) =
    ascii_at x (and_parts (nat_lt b 128) (all_are (λ c. nat_lt c 128) x) h).1 i

pub ascii_name : (n : List ℕ) → is_ascii_name n ≡ true → is_name n ≡ true
ascii_name [] h = absurd cc
ascii_name (b ∷ r) h =
    is_utf8-from_IsUtf8 (b ∷ r) (IsUtf8-from_ascii (b ∷ r) (λ i. (ascii_at (b ∷ r) h i)))

-- ---- tokens without an annotation, or after one

module _ {A B : Type 0} {form : Form A} {view : A → B} {g : Production B}
    (p : Unparses form view g) (balanced : form.balanced ≡ true)
  where
    whole_tokens : (a : A) → form.ready a ≡ true → WellFormed (form.spell a)
    whole_tokens a h = subst (λ (b : Bool). Nests b (form.spell a)) balanced (p.nests a h)

    pub inside : Inside form view g
    inside = record {
      nests = λ a h. well_formed_paren (form.spell a) (whole_tokens a h);
      front = p.front;
      here = p.here;
      only = p.only;
    }

    -- @n, then the form
    pub annotated : (n : List ℕ) → is_ascii_name n ≡ true → is_standard n ≡ true
        → bytes_eq n n ≡ true → Inside (annotation_form n form) view (annotation n g)
    annotated n k s e =
        led_prints p (λ test. (y : List Token) → test (Annotation n ∷ y) ≡ true) (Annotation n)
        (annotation_token n) (λ r. (Annotation n, refl, rw e refl)) (λ test y f. f y)
        (λ a h. noted n (form.spell a) [] (ascii_name n k) s (whole_tokens a h) nothing)
