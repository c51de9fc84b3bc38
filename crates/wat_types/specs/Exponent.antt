-- Powers of two and their exponents.
use Rattle.std.specs.Prelude.{◌≡◌, ℕ, zero, suc, ◌^◌, ◌==◌, if◌then◌else◌, Option, Some, None}

-- n is 2 to the k
abbrev pub IsTwoTo : ℕ → ℕ → Type 0
IsTwoTo k n = n ≡ 2 ^ k

-- the k below the first argument with n = 2 to the k
abbrev pub exponent_below : ℕ → ℕ → Option ℕ
exponent_below zero n = None
exponent_below (suc k) n = if n == 2 ^ k then Some k else exponent_below k n

-- the k with n = 2 to the k; k is below n
unfoldable pub exponent : ℕ → Option ℕ
exponent n = exponent_below n n
