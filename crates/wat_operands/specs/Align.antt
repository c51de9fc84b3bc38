-- Keywords that contain a number, and which tokens spell an alignment.
use Rattle.std.specs.Prelude.{ℕ, List, codes, Option, None, Some, refl}
use Rattle.wat_types.specs.Prelude.{is_power_of_two, unsigned_value, past_front, Token, Keyword, Production, one, made_where}
use Rattle.wat_operands.specs.Power.{IsPowerOfTwo}

abbrev pub number_in : Option (List ℕ) → Option ℕ
number_in (Some text) = unsigned_value 64 text
number_in None = None

-- the unsigned number of 64 bits after the prefix of a keyword
abbrev pub number_behind : List ℕ → Token → Option ℕ
number_behind front (Keyword w) = number_in (past_front front w)
number_behind front _ = None

-- a word `front`n
unfoldable pub field : List ℕ → Production ℕ
field front = one (number_behind front) (refl, refl)

-- `align=`n, where n is a power of two
abbrev pub AlignSpells : ℕ → List Token → List Token → Type 0
AlignSpells n c r = (field (codes "align=")).spells n c r × IsPowerOfTwo n

abbrev pub align_tested : Production ℕ
align_tested = made_where is_power_of_two (λ n. n) (field (codes "align="))
