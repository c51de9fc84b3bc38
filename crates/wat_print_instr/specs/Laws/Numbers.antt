-- Laws: round trips of signed and unsigned numbers, and of words that end in a number.
use Rattle.std.proofs.Common.{neg_ℤ, List, ◌≡◌, ℕ, ℤ, zero, suc, pos, negsuc, ◌^◌, ◌-◌, ◌<◌, ◌≤◌, ◌-ℤ◌, true, nat_lt, nat_le, Option, Some, None, option_map, decimal, refl, lit≤, arith, subst, sym}
use Rattle.std.proofs.lemmas.Bool.{ltb-false}
use Rattle.wat_print.specs.Laws.Prelude.{signed_decimal, cond_both, leb-true, lt-ltb, ltb-true, nat_tests, decimal_is_IsNumeral, ints, signed_value, sign_of, magnitude, without_sign, up_to, twos_complement, unsigned_value, is_idchar, Token, LParen, Integer, Sign, Minus, signed, unsigned, unsigned_of, all_are, OfIntegers, Prints, is_printable, is_given, one_prints, magnitude_decimal, decimal_printable, no_sign, unsigned_decimal, unsigned_fits}
use Rattle.wat_lexer.specs.Number.{signed_by}
use Rattle.wat_tokens.specs.Integers.{signed_of}
use Rattle.wat_print.specs.Laws.Numbers.{digits_idchars}
use Rattle.wat_print_instr.specs.Numbers.{Halves, is_signed, signed_form, is_unsigned, unsigned_form}

-- ---- signed numbers

signed_text : (bits : ℕ) (z : ℤ) → Halves bits → is_signed bits z ≡ true
    → signed_value bits (signed_decimal z) ≡ Some z
signed_text bits (pos n) k h =
    let low : n < 2 ^ (bits - 1) = ltb-true n (2 ^ (bits - 1)) h in
    let lt : n < 2 ^ 64 = omega (arith, k.whole, k.fits) in
    let d = decimal_is_IsNumeral n lt in
    let s = no_sign (decimal n) d.0.1 in
    let e : nat_le n (2 ^ bits - 1) ≡ true = grind (arith, nat_tests, k.whole) in
    rw (s.0, s.1, magnitude_decimal n lt, e, h) refl
signed_text bits (negsuc n) k h =
    let low : n < 2 ^ (bits - 1) = ltb-true n (2 ^ (bits - 1)) h in
    let lt : suc n < 2 ^ 64 = omega (arith, k.whole, k.fits, k.some) in
    let e : nat_le (suc n) (2 ^ (bits - 1)) ≡ true = grind (arith, nat_tests) in
    rw (magnitude_decimal (suc n) lt, e) refl

signed_printable : (bits : ℕ) (z : ℤ) → Halves bits → is_signed bits z ≡ true
    → is_printable (Integer (signed_decimal z)) ≡ true
signed_printable bits (pos n) k h =
    let low : n < 2 ^ (bits - 1) = ltb-true n (2 ^ (bits - 1)) h in
    decimal_printable n (omega (arith, k.whole, k.fits))
signed_printable bits (negsuc n) k h =
    let low : n < 2 ^ (bits - 1) = ltb-true n (2 ^ (bits - 1)) h in
    let lt : suc n < 2 ^ 64 = omega (arith, k.whole, k.fits, k.some) in
    let d = decimal_is_IsNumeral (suc n) lt in
    rw (digits_idchars (decimal (suc n)) d.0.1, magnitude_decimal (suc n) lt) refl

-- the number with the bits of n
complement_is : (bits n : ℕ) → Halves bits → nat_le n (2 ^ bits - 1) ≡ true
    → is_signed bits (twos_complement bits n) ≡ true
complement_is bits n k h =
    cond_both (nat_lt n (2 ^ (bits - 1))) (pos n) (pos n -ℤ pos (2 ^ bits))
    (λ (z : ℤ). is_signed bits z ≡ true) (λ e. e)
    (λ e.
    (let le = leb-true n (2 ^ bits - 1) h in
    let ge = ltb-false n (2 ^ (bits - 1)) e in
    let gap : pos n -ℤ pos (2 ^ bits) ≡ negsuc (2 ^ bits - suc n) =
    omega (arith, ints, k.whole, k.some) in
    subst (λ (z : ℤ). is_signed bits z ≡ true) (sym gap)
    (lt-ltb (2 ^ bits - suc n) (2 ^ (bits - 1)) (omega (arith, k.whole, k.some)))))

negative_is : (bits n : ℕ) → Halves bits → nat_le n (2 ^ (bits - 1)) ≡ true
    → is_signed bits (neg_ℤ (pos n)) ≡ true
negative_is bits zero k h = lt-ltb 0 (2 ^ (bits - 1)) (omega (arith, k.some))
negative_is bits (suc n) k h = grind (arith, nat_tests)

some_signed : (bits : ℕ) (z : ℤ) (o : Option ℕ) (f : ℕ → ℤ) (limit : ℕ)
    → ((m : ℕ) → nat_le m limit ≡ true → is_signed bits (f m) ≡ true)
    → option_map f (up_to limit o) ≡ Some z → is_signed bits z ≡ true
some_signed bits z None f limit h e = absurd cc
some_signed bits z (Some m) f limit h e =
    cond_both (nat_le m limit) (Some m) None
    (λ (o : Option ℕ). option_map f o ≡ Some z → is_signed bits z ≡ true)
    (λ t k. (let same : f m ≡ z = cc in
    subst (λ (y : ℤ). is_signed bits y ≡ true) same (h m t)))
    (λ t k. absurd cc) e

signed_given_by : (s : Option Sign) (bits : ℕ) (z : ℤ) (o : Option ℕ) → Halves bits
    → signed_by s bits o ≡ Some z → is_signed bits z ≡ true
signed_given_by (Some Minus) bits z o k e =
    some_signed bits z o (λ n. neg_ℤ (pos n)) (2 ^ (bits - 1)) (λ m h. (negative_is bits m k h)) e
signed_given_by _ bits z o k e =
    some_signed bits z o (twos_complement bits) (2 ^ bits - 1) (λ m h. (complement_is bits m k h)) e

signed_given : (bits : ℕ) → Halves bits → (t : Token) (z : ℤ) → is_given t ≡ true
    → signed_of bits t ≡ Some z → is_signed bits z ≡ true
signed_given bits k (Integer x) z a e =
    signed_given_by (sign_of x) bits z (magnitude (without_sign x)) k e
signed_given bits k LParen z a e = absurd cc
signed_given bits k _ z a e = absurd cc

pub signed_prints : (bits : ℕ) → Halves bits → Prints (signed_form bits) (signed bits)
signed_prints bits k =
    one_prints (signed_of bits) (refl, refl) (λ z. Integer (signed_decimal z)) (is_signed bits)
    OfIntegers (λ rest test f z y h i. f (signed_decimal z) y i)
    (λ z h. signed_printable bits z k h) (λ z h. signed_text bits z k h) (signed_given bits k)

-- the four widths
pub halves_8 : Halves 8
halves_8 = record { whole = refl; some = lit≤ tt; fits = lit≤ tt }

pub halves_16 : Halves 16
halves_16 = record { whole = refl; some = lit≤ tt; fits = lit≤ tt }

pub halves_32 : Halves 32
halves_32 = record { whole = refl; some = lit≤ tt; fits = lit≤ tt }

pub halves_64 : Halves 64
halves_64 = record { whole = refl; some = lit≤ tt; fits = lit≤ tt }

-- ---- unsigned numbers

pub unsigned_printable : (bits n : ℕ) → 2 ^ bits ≤ 2 ^ 64 → is_unsigned bits n ≡ true
    → is_printable (Integer (decimal n)) ≡ true
unsigned_printable bits n le h =
    let lt : n < 2 ^ bits = ltb-true n (2 ^ bits) h in decimal_printable n (omega arith)

pub unsigned_text : (bits n : ℕ) → 2 ^ bits ≤ 2 ^ 64 → is_unsigned bits n ≡ true
    → unsigned_value bits (decimal n) ≡ Some n
unsigned_text bits n le h =
    let lt : n < 2 ^ bits = ltb-true n (2 ^ bits) h in
    unsigned_decimal bits n (omega arith) (omega arith)

pub unsigned_found : (bits : ℕ) → 1 ≤ 2 ^ bits → (x : List ℕ) (n : ℕ)
    → unsigned_value bits x ≡ Some n → is_unsigned bits n ≡ true
unsigned_found bits p x n e =
    let le = unsigned_fits bits x n e in lt-ltb n (2 ^ bits) (omega arith)

unsigned_given : (bits : ℕ) → 1 ≤ 2 ^ bits → (t : Token) (n : ℕ) → is_given t ≡ true
    → unsigned_of bits t ≡ Some n → is_unsigned bits n ≡ true
unsigned_given bits p (Integer x) n a e = unsigned_found bits p x n e
unsigned_given bits p LParen n a e = absurd cc
unsigned_given bits p _ n a e = absurd cc

pub unsigned_prints : (bits : ℕ) → 2 ^ bits ≤ 2 ^ 64 → 1 ≤ 2 ^ bits
    → Prints (unsigned_form bits) (unsigned bits)
unsigned_prints bits le p =
    one_prints (unsigned_of bits) (refl, refl) (λ n. Integer (decimal n)) (is_unsigned bits)
    OfIntegers (λ rest test f n y h k. f (decimal n) y k)
    (λ n h. unsigned_printable bits n le h) (λ n h. unsigned_text bits n le h)
    (unsigned_given bits p)

-- ---- words that end in a number

pub number_text : (n : ℕ) → n < 2 ^ 64 → unsigned_value 64 (decimal n) ≡ Some n
number_text n lt = unsigned_decimal 64 n lt (omega arith)

pub number_chars : (n : ℕ) → n < 2 ^ 64 → all_are is_idchar (decimal n) ≡ true
number_chars n lt = digits_idchars (decimal n) (decimal_is_IsNumeral n lt).0.1
