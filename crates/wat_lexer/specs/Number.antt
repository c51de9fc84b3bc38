-- Integers, and their values in a number of bits. An integer is an optional sign, and then digits,
-- or `0x` and hex digits, with single `_` between digits.
use Rattle.std.specs.Prelude.{ℕ, ◌+◌, ◌-◌, ◌*◌, ◌^◌, Bool, true, false, List, [], ◌∷◌, drop, Option, Some, None, option_map, is_some, ◌==◌, ◌&&◌, ◌||◌, nat_lt, nat_le, if◌then◌else◌, ℤ, pos, neg_ℤ, ◌-ℤ◌}
use Prim.Native.Char.{code}
use Rattle.std.specs.Char.{digit_value}
use Rattle.wat_lexer.specs.declared.number.Sign.{Sign}
use Rattle.wat_lexer.specs.declared.number.Sign.TheVariants.{Plus, Minus}

-- DIGITS

-- Reads on. The digits so far have the value n. The flag is true if a digit is directly before. A
-- digit is valid anywhere. A `_` and the end are valid only directly after a digit.
unfoldable pub read : ℕ → Bool → ℕ → List ℕ → Option ℕ
read base behind n [] = if behind then Some n else None
read base behind n (c ∷ t) =
    if nat_lt (digit_value c) base then read base true (n * base + digit_value c) t
    else (if behind && (c == code "_") then read base false n t else None)

-- the value of digits of a base, with single `_` between digits; there is at least one digit
abbrev pub number : ℕ → List ℕ → Option ℕ
number base x = read base false 0 x

-- `0x`
abbrev pub begins_hex : List ℕ → Bool
begins_hex [] = false
begins_hex (a ∷ []) = false
begins_hex (a ∷ b ∷ _) = (a == code "0") && (b == code "x")

-- the value of decimal digits, or of `0x` and hex digits
abbrev pub magnitude : List ℕ → Option ℕ
magnitude x = if begins_hex x then number 16 (drop 2 x) else number 10 x

-- SIGNS

-- the sign in front: `+` or `-`
abbrev pub sign_of : List ℕ → Option Sign
sign_of [] = None
sign_of (c ∷ _) = if c == code "+" then Some Plus else (if c == code "-" then Some Minus else None)

-- the bytes after the sign, or all bytes if there is no sign
abbrev pub without_sign : List ℕ → List ℕ
without_sign [] = []
without_sign (c ∷ t) = if (c == code "+") || (c == code "-") then t else c ∷ t

abbrev pub is_integer : List ℕ → Bool
is_integer x = is_some (magnitude (without_sign x))

-- VALUES

-- the widths in which an integer can be read
abbrev pub is_width : ℕ → Bool
is_width bits = (bits == 8) || ((bits == 16) || ((bits == 32) || (bits == 64)))

-- the value, if it is at most the limit
abbrev pub up_to : ℕ → Option ℕ → Option ℕ
up_to limit None = None
up_to limit (Some n) = if nat_le n limit then Some n else None

-- The unsigned value of an integer. A `-` is refused, also for `-0`.
abbrev pub unsigned_by : Option Sign → ℕ → Option ℕ → Option ℕ
unsigned_by None bits n = up_to (2 ^ bits - 1) n
unsigned_by (Some Plus) bits n = up_to (2 ^ bits - 1) n
unsigned_by (Some Minus) bits n = None

abbrev pub unsigned_value : ℕ → List ℕ → Option ℕ
unsigned_value bits x = unsigned_by (sign_of x) bits (magnitude (without_sign x))

-- the signed number that has the same bits as n
abbrev pub twos_complement : ℕ → ℕ → ℤ
twos_complement bits n = if nat_lt n (2 ^ (bits - 1)) then pos n else pos n -ℤ pos (2 ^ bits)

-- The signed value of an integer. After `-` it is the negative of at most 2^(bits-1). Otherwise it
-- is the signed number with the same bits as the unsigned value.
abbrev pub signed_by : Option Sign → ℕ → Option ℕ → Option ℤ
signed_by None bits n = option_map (twos_complement bits) (up_to (2 ^ bits - 1) n)
signed_by (Some Plus) bits n = option_map (twos_complement bits) (up_to (2 ^ bits - 1) n)
signed_by (Some Minus) bits n = option_map (λ n. neg_ℤ (pos n)) (up_to (2 ^ (bits - 1)) n)

abbrev pub signed_value : ℕ → List ℕ → Option ℤ
signed_value bits x = signed_by (sign_of x) bits (magnitude (without_sign x))
