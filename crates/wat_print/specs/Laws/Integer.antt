-- Laws: integers are written with the text that was read.
use Rattle.std.proofs.Common.{◌≡◌, ℕ, ◌+◌, ◌*◌, ◌<◌, ◌≤◌, Bool, true, false, ◌&&◌, ◌||◌, ◌==◌, nat_lt, List, [], ◌∷◌, drop, Option, Some, is_some, refl, subst, arith}
use Rattle.wat_print.specs.Laws.Prelude.{digit_value, and_parts, cond_both, nat_tests, is_idchar, read, begins_hex, magnitude, without_sign, is_integer, Token, Integer, WellFormed, is_given, all_are, OnlyPrintable, only_one, Spells, well_formed_one}
use Rattle.wat_lexer.specs.Number.{number}
use Rattle.wat_tokens.specs.Integers.{integer}
use Rattle.wat_tokens.specs.Tests.{as_integer}
use Rattle.wat_print.specs.Integer.{spell_integer}

-- ---- the bytes of an integer are idchars

digit_idchar : (c : ℕ) → digit_value c < 36 → is_idchar c ≡ true
digit_idchar c h = grind (arith, nat_tests)

low_digit : (c base : ℕ) → base ≤ 36 → nat_lt (digit_value c) base ≡ true → is_idchar c ≡ true
low_digit c base le e =
    let lt : digit_value c < base = grind (arith, nat_tests) in
    digit_idchar c (omega (arith, lt, le))

underscore : (behind : Bool) (c : ℕ) → behind && (c == 95) ≡ true → is_idchar c ≡ true
underscore behind c e =
    let p = and_parts behind (c == 95) e in
    let same : c ≡ 95 = grind (arith, nat_tests) in
    rw same refl

abbrev AreIdchars : List ℕ → Option ℕ → Type 0
AreIdchars x o = is_some o ≡ true → all_are is_idchar x ≡ true

read_idchars : (base : ℕ) → base ≤ 36 → (behind : Bool) (n : ℕ) (x : List ℕ)
    → AreIdchars x (read base behind n x)
unfolding read
read_idchars base le behind n [] = λ e. refl
read_idchars base le behind n (c ∷ t) =
    cond_both (nat_lt (digit_value c) base) _ _ (AreIdchars (c ∷ t))
    (λ d e. rw (low_digit c base le d)
    (read_idchars base le true (n * base + digit_value c) t e))
    (λ d. cond_both (behind && (c == 95)) _ _ (AreIdchars (c ∷ t))
    (λ u e. rw (underscore behind c u) (read_idchars base le false n t e)) (λ u e. absurd cc))

hex_front : (x : List ℕ) → begins_hex x ≡ true → all_are is_idchar (drop 2 x) ≡ true
    → all_are is_idchar x ≡ true
hex_front [] h e = refl
hex_front (a ∷ []) h e = absurd cc
hex_front (a ∷ b ∷ r) h e =
    let p = and_parts (a == 48) (b == 120) h in
    let f : a ≡ 48 = grind (arith, nat_tests, p.0) in
    let g : b ≡ 120 = grind (arith, nat_tests, p.1) in
    rw (f, g) e

magnitude_idchars : (x : List ℕ) → AreIdchars x (magnitude x)
magnitude_idchars x =
    cond_both (begins_hex x) (number 16 (drop 2 x)) (number 10 x) (AreIdchars x)
    (λ h e. hex_front x h (read_idchars 16 (omega arith) false 0 (drop 2 x) e))
    (λ h e. read_idchars 10 (omega arith) false 0 x e)

sign_idchar : (c : ℕ) → (c == 43) || (c == 45) ≡ true → is_idchar c ≡ true
sign_idchar c e = grind (arith, nat_tests)

sign_front : (x : List ℕ) → all_are is_idchar (without_sign x) ≡ true
    → all_are is_idchar x ≡ true
sign_front [] = λ e. refl
sign_front (c ∷ t) =
    cond_both ((c == 43) || (c == 45)) t (c ∷ t)
    (λ (l : List ℕ). all_are is_idchar l ≡ true → all_are is_idchar (c ∷ t) ≡ true)
    (λ s e. rw (sign_idchar c s) e) (λ s e. e)

integer_idchars : (x : List ℕ) → is_integer x ≡ true → all_are is_idchar x ≡ true
integer_idchars x e = sign_front x (magnitude_idchars (without_sign x) e)

-- ---- the written tokens

pub integer_here : (x : List ℕ) → Spells integer x (spell_integer x)
integer_here x r = (Integer x, refl, refl)

pub integer_well_formed : (x : List ℕ) → is_integer x ≡ true → WellFormed (spell_integer x)
integer_well_formed x e = well_formed_one (Integer x) (rw (integer_idchars x e, e) refl)

given_integer : (t : Token) (x : List ℕ) → is_given t ≡ true → as_integer t ≡ Some x
    → is_integer x ≡ true
given_integer (Integer k) x a e =
    let same : k ≡ x = cc in subst (λ (y : List ℕ). is_integer y ≡ true) same a
given_integer _ x a e = absurd cc

pub integer_only : OnlyPrintable integer is_integer
integer_only = only_one as_integer (refl, refl) is_integer given_integer
