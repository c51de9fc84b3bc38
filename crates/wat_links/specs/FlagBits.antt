-- One flag of a symbol.
use Rattle.std.specs.Prelude.{ℕ, List, [], ◌∷◌, codes, refl}
use Rattle.wat_types.specs.Prelude.{word_in, unsigned, Production, one, where_else, at_integer}

-- each keyword of a flag, with its bit
abbrev pub flag_words : List (List ℕ × ℕ)
flag_words =
    (codes "binding-weak", 1) ∷ (codes "binding-local", 2) ∷ (codes "visibility-hidden", 4)
    ∷ (codes "undefined", 16) ∷ (codes "exported", 32) ∷ (codes "explicit-name", 64)
    ∷ (codes "no-strip", 128) ∷ (codes "tls", 256) ∷ (codes "absolute", 512) ∷ []

-- u32 | keyword of a flag, as its bit
unfoldable pub flag_bits : Production ℕ
flag_bits =
    where_else at_integer (unsigned 32) (one (word_in flag_words) (refl, refl))
