-- Invalid escapes in a string.
use Rattle.std.specs.Prelude.{ℕ, ◌+◌, ◌==◌, ◌&&◌, ◌||◌, Bool, List, [], ◌∷◌, drop, slice_index, if◌then◌else◌}
use Prim.Native.Char.{code}
use Rattle.wat_lexer.specs.Cut.{is_hex}

-- a letter or character that follows the backslash of an escape
abbrev pub is_escape_letter : ℕ → Bool
is_escape_letter c =
    (c == code "t") || ((c == code "n") || ((c == code "r") || ((c == code "u")
    || ((c == code "\"") || ((c == code "'") || (c == code "\\"))))))

-- a backslash followed by the two bytes is a valid escape: one of these, or two hexadecimal digits
abbrev pub is_escape : ℕ → ℕ → Bool
is_escape c d = is_escape_letter c || (is_hex c && is_hex d)

-- the number of bytes of a string before its first quote or invalid escape
unfoldable pub escapes_len : List ℕ → ℕ
escapes_len [] = 0
escapes_len (b ∷ []) = 0
escapes_len (b ∷ c ∷ t) =
    if b == code "\\" then (if is_escape c (slice_index t 0) then escapes_len t + 2 else 0)
    else if b == code "\"" then 0
    else escapes_len (c ∷ t) + 1

-- the offset of the first quote after the one at the offset, or of the first invalid escape
unfoldable pub escapes_end : List ℕ → ℕ → ℕ
escapes_end text at = at + 1 + escapes_len (drop (at + 1) text)
