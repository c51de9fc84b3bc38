-- Laws: the digits that are written for a number read as this number.
use Rattle.std.proofs.Common.{◌≡◌, ℕ, ◌+◌, ◌*◌, ◌^◌, ◌-◌, ◌<◌, ◌≤◌, true, false, ◌==◌, nat_lt, nat_le, List, [], ◌∷◌, Option, Some, None, decimal, refl, arith, subst}
use Rattle.std.specs.Str.Parse.{AllDigits, digits_value, digits_value_after, IsNumeral}
use Rattle.std.proofs.lemmas.Str.Parse.{digit_from_value}
use Rattle.wat_types.specs.Prelude.{digit_value, cond_both, leb-true, nat_tests, decimal_is_IsNumeral, is_idchar, read, begins_hex, magnitude, sign_of, without_sign, unsigned_value, up_to, Integer}
use Rattle.wat_print.specs.Prelude.{all_are, is_printable}
use Rattle.wat_lexer.specs.Number.{number, unsigned_by}
use Rattle.wat_lexer.specs.declared.number.Sign.{Sign}
use Rattle.wat_lexer.specs.declared.number.Sign.TheVariants.{Plus, Minus}

read_digits : (x : List ℕ) (n : ℕ) → AllDigits 10 x
    → read 10 true n x ≡ Some (digits_value_after 10 n x)
unfolding read
read_digits [] n h = refl
read_digits (c ∷ x) n h =
    let lt : digit_value c < 10 = h.0 in
    let e : nat_lt (digit_value c) 10 ≡ true = grind (arith, nat_tests) in
    rw e (read_digits x (n * 10 + digit_value c) h.1)

number_digits : (x : List ℕ) → IsNumeral 10 x → number 10 x ≡ Some (digits_value 10 x)
unfolding read
number_digits [] h = absurd (omega (arith, h.0))
number_digits (c ∷ x) h =
    let lt : digit_value c < 10 = h.1.0 in
    let e : nat_lt (digit_value c) 10 ≡ true = grind (arith, nat_tests) in
    rw e (read_digits x (0 * 10 + digit_value c) h.1.1)

digit_bounds : (c : ℕ) → digit_value c < 10 → (48 ≤ c) × (c ≤ 57)
digit_bounds c h = let r = digit_from_value c h in (omega arith, omega arith)

no_hex : (x : List ℕ) → AllDigits 10 x → begins_hex x ≡ false
no_hex [] h = refl
no_hex (a ∷ []) h = refl
no_hex (a ∷ b ∷ r) h = let d = digit_bounds b h.1.0 in grind (arith, nat_tests, d.0, d.1)

pub no_sign : (x : List ℕ) → AllDigits 10 x → (sign_of x ≡ None) × (without_sign x ≡ x)
no_sign [] h = (refl, refl)
no_sign (a ∷ r) h =
    let d = digit_bounds a h.0 in
    let e : (a == 43) ≡ false = grind (arith, nat_tests, d.0, d.1) in
    let f : (a == 45) ≡ false = grind (arith, nat_tests, d.0, d.1) in
    (rw (e, f) refl, rw (e, f) refl)

pub digits_idchars : (x : List ℕ) → AllDigits 10 x → all_are is_idchar x ≡ true
digits_idchars [] h = refl
digits_idchars (a ∷ r) h =
    let d = digit_bounds a h.0 in
    let e : is_idchar a ≡ true = grind (arith, nat_tests, d.0, d.1) in
    rw e (digits_idchars r h.1)

pub magnitude_decimal : (n : ℕ) → n < 2 ^ 64 → magnitude (decimal n) ≡ Some n
magnitude_decimal n lt =
    let d = decimal_is_IsNumeral n lt in
    let e = number_digits (decimal n) d.0 in
    rw (no_hex (decimal n) d.0.1, e, d.1) refl

pub decimal_printable : (n : ℕ) → n < 2 ^ 64 → is_printable (Integer (decimal n)) ≡ true
decimal_printable n lt =
    let d = decimal_is_IsNumeral n lt in
    rw (digits_idchars (decimal n) d.0.1, (no_sign (decimal n) d.0.1).1, magnitude_decimal n lt)
    refl

pub unsigned_decimal : (bits n : ℕ) → n < 2 ^ 64 → n ≤ 2 ^ bits - 1
    → unsigned_value bits (decimal n) ≡ Some n
unsigned_decimal bits n lt le =
    let d = decimal_is_IsNumeral n lt in
    let s = no_sign (decimal n) d.0.1 in
    let e : nat_le n (2 ^ bits - 1) ≡ true = grind (arith, nat_tests) in
    rw (s.0, s.1, magnitude_decimal n lt, e) refl

-- ---- numbers in texts

up_to_fits : (limit n : ℕ) (o : Option ℕ) → up_to limit o ≡ Some n → n ≤ limit
up_to_fits limit n None e = absurd cc
up_to_fits limit n (Some m) e =
    cond_both (nat_le m limit) (Some m) None (λ (o : Option ℕ). o ≡ Some n → n ≤ limit)
    (λ k f. (let same : m ≡ n = cc in
    subst (λ (j : ℕ). j ≤ limit) same (leb-true m limit k)))
    (λ k f. absurd cc) e

sign_fits : (s : Option Sign) (bits n : ℕ) (o : Option ℕ) → unsigned_by s bits o ≡ Some n
    → n ≤ 2 ^ bits - 1
sign_fits None bits n o e = up_to_fits (2 ^ bits - 1) n o e
sign_fits (Some Plus) bits n o e = up_to_fits (2 ^ bits - 1) n o e
sign_fits (Some Minus) bits n o e = absurd cc

-- a number that is read as a number of n bits fits in n bits
pub unsigned_fits : (bits : ℕ) (x : List ℕ) (n : ℕ) → unsigned_value bits x ≡ Some n
    → n ≤ 2 ^ bits - 1
unsigned_fits bits x n e = sign_fits (sign_of x) bits n (magnitude (without_sign x)) e
