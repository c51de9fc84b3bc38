-- Float literals, by their spelling. A float literal is an optional sign, and then `inf`, `nan`,
-- `nan:0x` and hex digits, or a number. A number is digits, an optional point with or without
-- digits after it, and an optional exponent. The exponent is `e` or `E`, an optional sign, and
-- decimal digits. A hexadecimal number is `0x` and the same with hex digits and with `p` or `P`,
-- but its exponent has decimal digits. Single `_` are between digits only.
use Rattle.std.specs.Prelude.{ℕ, Bool, true, false, List, [], ◌∷◌, take, drop, ◌==◌, ◌&&◌, ◌||◌, nat_lt, if◌then◌else◌, codes}
use Prim.Native.Char.{code}
use Rattle.wat_lexer.specs.Prelude.{digit_value, bytes_eq, begins_hex, without_sign}
use Rattle.wat_masked.specs.declared.float.FloatState.{FloatState}
use Rattle.wat_masked.specs.declared.float.FloatState.TheVariants as at

-- a digit, hexadecimal or decimal
abbrev pub is_digit : Bool → ℕ → Bool
is_digit hex c = if hex then nat_lt (digit_value c) 16 else nat_lt (digit_value c) 10

-- the byte that begins an exponent: `p` or `P` after hexadecimal digits, otherwise `e` or `E`
abbrev pub is_mark : Bool → ℕ → Bool
is_mark hex c = if hex then (c == code "p") || (c == code "P") else (c == code "e") || (c == code "E")

-- whether digits at the state are hexadecimal; the digits of an exponent are decimal
abbrev pub is_hex_at : Bool → FloatState → Bool
is_hex_at hex at.Mark = false
is_hex_at hex at.Sign = false
is_hex_at hex at.Exponent = false
is_hex_at hex at.ExponentGap = false
is_hex_at hex _ = hex

-- the state after a digit
abbrev pub behind_digit : FloatState → FloatState
behind_digit at.Start = at.Whole
behind_digit at.Whole = at.Whole
behind_digit at.WholeGap = at.Whole
behind_digit at.Point = at.Fraction
behind_digit at.Fraction = at.Fraction
behind_digit at.FractionGap = at.Fraction
behind_digit at.Mark = at.Exponent
behind_digit at.Sign = at.Exponent
behind_digit at.Exponent = at.Exponent
behind_digit at.ExponentGap = at.Exponent
behind_digit at.Wrong = at.Wrong

-- the state after any other byte
abbrev pub behind_other : Bool → FloatState → ℕ → FloatState
behind_other hex at.Whole c =
    if c == code "_" then at.WholeGap else (if c == code "." then at.Point
    else (if is_mark hex c then at.Mark else at.Wrong))
behind_other hex at.Point c = if is_mark hex c then at.Mark else at.Wrong
behind_other hex at.Fraction c =
    if c == code "_" then at.FractionGap else (if is_mark hex c then at.Mark else at.Wrong)
behind_other hex at.Mark c = if (c == code "+") || (c == code "-") then at.Sign else at.Wrong
behind_other hex at.Exponent c = if c == code "_" then at.ExponentGap else at.Wrong
behind_other hex _ c = at.Wrong

-- the state after a byte
abbrev pub next : Bool → FloatState → ℕ → FloatState
next hex p c = if is_digit (is_hex_at hex p) c then behind_digit p else behind_other hex p c

-- a number may end at the state: after a digit, or directly after the point
abbrev pub is_last : FloatState → Bool
is_last at.Whole = true
is_last at.Point = true
is_last at.Fraction = true
is_last at.Exponent = true
is_last _ = false

-- after a digit before the point
abbrev pub is_whole : FloatState → Bool
is_whole at.Whole = true
is_whole _ = false

-- the state after bytes
unfoldable pub state_after : Bool → FloatState → List ℕ → FloatState
state_after hex p [] = p
state_after hex p (c ∷ t) = state_after hex (next hex p c) t

-- `nan:0x` and hexadecimal digits
abbrev pub is_nan : List ℕ → Bool
is_nan x =
    bytes_eq (take 6 x) (codes "nan:0x") && is_whole (state_after true at.Start (drop 6 x))

-- a float without a sign
abbrev pub is_magnitude : List ℕ → Bool
is_magnitude x =
    bytes_eq x (codes "inf") || (bytes_eq x (codes "nan") || (is_nan x
    || (if begins_hex x then is_last (state_after true at.Start (drop 2 x))
    else is_last (state_after false at.Start x))))

-- a float literal of the standard; integers are float literals too
unfoldable pub is_float : List ℕ → Bool
is_float x = is_magnitude (without_sign x)
