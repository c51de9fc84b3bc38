-- Which tokens spell the exponent of a page size.
use Rattle.std.specs.Prelude.{ℕ, Bool, List, is_some, unwrap_or}
use Rattle.wat_tokens.specs.Prelude.{Token, Production, made_where, unsigned}
use Rattle.wat_types.specs.Exponent.{IsTwoTo, exponent}

-- u32, which is 2 to the k
abbrev pub ExponentSpells : ℕ → List Token → List Token → Type 0
ExponentSpells k c r = (n : ℕ) × (unsigned 32).spells n c r × IsTwoTo k n

abbrev pub has_exponent : ℕ → Bool
has_exponent n = is_some (exponent n)

abbrev pub exponent_or_0 : ℕ → ℕ
exponent_or_0 n = unwrap_or (exponent n) 0

abbrev pub exponent_tested : Production ℕ
exponent_tested = made_where has_exponent exponent_or_0 (unsigned 32)
