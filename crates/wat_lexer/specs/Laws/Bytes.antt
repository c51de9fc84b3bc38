-- Laws: bytes, and the bytes at an offset of a text.
use Rattle.std.proofs.Common.{◌≡◌, ℕ, ◌+◌, ◌-◌, ◌<◌, true, false, List, ◌∷◌, ◌++◌, length, drop, take, get_or, not, ◌==◌, ◌&&◌, nat_lt, arith, ap, add-one, drop-cons, length-append}
use Rattle.std.proofs.Math.ListN.{drop_of_length-le}
use Rattle.std.proofs.Math.Seq.{take-append_seam}
use Rattle.std.proofs.lemmas.Bool.Decides.{nat_tests}
use Rattle.std.specs.Str.{is_utf8}
use Rattle.std.proofs.lemmas.Bool.{false_from_ne_true}
use Rattle.std.proofs.lemmas.Str.{IsUtf8-from_is_utf8}
use Rattle.wat_lexer.specs.Prelude.{IsUtf8, is_idchar, begins}

-- the byte at i, and the text after it
pub at_front : (i : ℕ) (s : List ℕ) → i < length s → drop i s ≡ get_or s i 0 ∷ drop (i + 1) s
at_front i s h = rw (add-one, drop-cons s i 0)

pub at_front_two : (i : ℕ) (s : List ℕ) → i + 1 < length s
    → drop i s ≡ get_or s i 0 ∷ (get_or s (i + 1) 0 ∷ drop (i + 2) s)
at_front_two i s h =
    let a = at_front i s (omega arith) in
    let b = at_front (i + 1) s h in
    let e : i + 1 + 1 ≡ i + 2 = omega arith in cc

pub begins_at : (b i : ℕ) (s : List ℕ)
    → begins b (drop i s) ≡ (nat_lt i (length s) && (get_or s i 0 == b))
begins_at b i s = grind (arith, nat_tests, at_front, drop_of_length-le)

-- the bytes in front of the rest
pub front_of : (s x rest : List ℕ) → s ≡ x ++ rest → take (length s - length rest) s ≡ x
front_of s x rest e =
    let n : length s - length rest ≡ length x = omega (arith, ap length e, length-append x rest) in
    rw (n, e) (take-append_seam x rest)

pub idchar_ascii : (b : ℕ) → is_idchar b ≡ true → b < 128
idchar_ascii b h = grind (arith, nat_tests)

-- no idchar begins a line comment
pub idchar_no_mark : (b : ℕ) → is_idchar b ≡ true → not (b == 59) ≡ true
idchar_no_mark b h = grind (arith, nat_tests)

pub not_utf8 : (s : List ℕ) → ¬ (IsUtf8 s) → is_utf8 s ≡ false
not_utf8 s not = false_from_ne_true (is_utf8 s) (λ e. not (IsUtf8-from_is_utf8 s e))

pub same_number : (n : ℕ) → (n == n) ≡ true
same_number n = grind (arith, nat_tests)
