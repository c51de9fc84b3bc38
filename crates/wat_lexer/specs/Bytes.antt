-- The classes of bytes. `code "a"` is the byte of an ASCII character, and `codes "ab"` is the list of
-- the bytes of an ASCII text.
use Rattle.std.specs.Prelude.{ℕ, Bool, ◌==◌, ◌&&◌, ◌||◌, nat_le}
use Prim.Native.Char.{code}

abbrev pub between : ℕ → ℕ → ℕ → Bool
between low high b = nat_le low b && nat_le b high

-- space, tab, LF, CR
abbrev pub is_space : ℕ → Bool
is_space b = (b == code " ") || ((b == code "\t") || ((b == code "\n") || (b == code "\r")))

-- LF, CR
abbrev pub is_line_end : ℕ → Bool
is_line_end b = (b == code "\n") || (b == code "\r")

-- letters, digits and !#$%&'*+-./:<=>?@\^_`|~
-- The ranges, in the order of ASCII: #$%&' and *+ and -./0..9: and <=>?@A..Z and ^_`a..z
abbrev pub is_idchar : ℕ → Bool
is_idchar b =
    (b == code "!") || (between (code "#") (code "'") b || (between (code "*") (code "+") b
    || (between (code "-") (code ":") b || (between (code "<") (code "Z") b
    || ((b == code "\\") || (between (code "^") (code "z") b
    || ((b == code "|") || (b == code "~"))))))))
