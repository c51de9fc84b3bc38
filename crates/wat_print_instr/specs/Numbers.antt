-- How signed and unsigned numbers, and words that end in a number, are written.
use Rattle.std.specs.Prelude.{◌≡◌, ℕ, ℤ, pos, negsuc, ◌*◌, ◌^◌, ◌-◌, ◌≤◌, Bool, true, ◌&&◌, ◌==◌, nat_lt, List, ◌∷◌, ◌++◌, length, decimal}
use Rattle.wat_print.specs.Prelude.{signed_decimal, Token, Keyword, Integer, Test, Form, token_form, OfIntegers, each}

-- a width from 1 to 64 bits: twice 2^(bits - 1) is 2^bits
pub record Halves (bits : ℕ) : Type 0 where
  pub whole : 2 ^ bits ≡ 2 * 2 ^ (bits - 1)
  pub some : 1 ≤ 2 ^ (bits - 1)
  pub fits : 2 ^ bits ≤ 2 ^ 64

-- a signed number of this width
abbrev pub is_signed : ℕ → ℤ → Bool
is_signed bits (pos n) = nat_lt n (2 ^ (bits - 1))
is_signed bits (negsuc n) = nat_lt n (2 ^ (bits - 1))

abbrev pub signed_form : ℕ → Form ℤ
signed_form bits = token_form (λ z. Integer (signed_decimal z)) (is_signed bits) OfIntegers

-- an unsigned number of this width
abbrev pub is_unsigned : ℕ → ℕ → Bool
is_unsigned bits n = nat_lt n (2 ^ bits)

abbrev pub unsigned_form : ℕ → Form ℕ
unsigned_form bits = token_form (λ n. Integer (decimal n)) (is_unsigned bits) OfIntegers

-- a word that ends in a number
abbrev pub numbered : List ℕ → ℕ → Token
numbered front n = Keyword (front ++ decimal n)

abbrev pub OfNumbered : List ℕ → Test → Test → Type 0
OfNumbered front rest test = (n : ℕ) (y : List Token) → rest y ≡ true
    → test (numbered front n ∷ y) ≡ true

abbrev pub numbered_form : List ℕ → (ℕ → Bool) → Form ℕ
numbered_form front printable = token_form (numbered front) printable (OfNumbered front)

-- n values that pass the test
abbrev pub printable_number_of : {A : Type 0} → ℕ → (A → Bool) → List A → Bool
printable_number_of n printable vs = (length vs == n) && each printable vs
