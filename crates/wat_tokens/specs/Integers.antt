-- Integers, and their values as numbers of a given width.
use Rattle.std.specs.Prelude.{ℕ, ℤ, List, Option, None, refl}
use Rattle.wat_lexer.specs.Prelude.{unsigned_value, signed_value, Token, Integer}
use Rattle.wat_tokens.specs.Tests.{as_integer}
use Rattle.wat_tokens.specs.Production.{Production}
use Rattle.wat_tokens.specs.Parts.{one}

-- an integer of any value, as its text
abbrev pub integer : Production (List ℕ)
integer = one as_integer (refl, refl)

-- the token's value as an unsigned number of the given width in bits
abbrev pub unsigned_of : ℕ → Token → Option ℕ
unsigned_of bits (Integer text) = unsigned_value bits text
unsigned_of bits _ = None

-- the token's value as a signed number of the given width in bits
abbrev pub signed_of : ℕ → Token → Option ℤ
signed_of bits (Integer text) = signed_value bits text
signed_of bits _ = None

-- uN
abbrev pub unsigned : ℕ → Production ℕ
unsigned bits = one (unsigned_of bits) (refl, refl)

-- iN
abbrev pub signed : ℕ → Production ℤ
signed bits = one (signed_of bits) (refl, refl)
