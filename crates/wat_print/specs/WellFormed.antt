-- Tokens that can be written, and tokens that occur in texts.
use Rattle.std.specs.Prelude.{◌≡◌, ℕ, Bool, true, false, ◌&&◌, nat_lt, List, [], ◌∷◌, ◌++◌}
use Rattle.std.specs.Str.{is_utf8}
use Rattle.wat_types.specs.Prelude.{is_idchar, between, is_integer, is_standard, Token, LParen, RParen, Keyword, Id, Annotation, Integer, String}
use Rattle.wat_print.specs.Text.{all_are}

-- idchars, the first of which is a letter from a to z
abbrev pub is_keyword : List ℕ → Bool
is_keyword [] = false
is_keyword (b ∷ r) = between 97 122 b && all_are is_idchar (b ∷ r)

abbrev pub is_byte : ℕ → Bool
is_byte b = nat_lt b 256

-- UTF-8 of at least one byte
abbrev pub is_name : List ℕ → Bool
is_name [] = false
is_name (b ∷ r) = is_utf8 (b ∷ r)

-- a token that can be written and is neither a parenthesis nor an annotation
abbrev pub is_printable : Token → Bool
is_printable (Keyword k) = is_keyword k
is_printable (Id n) = is_name n
is_printable (Integer k) = all_are is_idchar k && is_integer k
is_printable (String s) = all_are is_byte s
is_printable _ = false

-- Tokens that can be written: parentheses nest, and each annotation is standard and directly after
-- a `(`.
pub data WellFormed : List Token → Type 0 where
  nothing : WellFormed []
  token : (t : Token) (r : List Token) → is_printable t ≡ true → WellFormed r → WellFormed (t ∷ r)
  group : (a r : List Token) → WellFormed a → WellFormed r → WellFormed (LParen ∷ (a ++ RParen ∷ r))
  noted : (n : List ℕ) (a r : List Token) → is_name n ≡ true → is_standard n ≡ true → WellFormed a
      → WellFormed r
      → WellFormed (LParen ∷ (Annotation n ∷ (a ++ RParen ∷ r)))

-- A token that can occur in a text: a name is UTF-8 and not empty, an integer has the syntax of
-- integers, and each element of a string is a byte.
abbrev pub is_given : Token → Bool
is_given (Id n) = is_name n
is_given (Annotation n) = is_name n
is_given (Integer k) = is_integer k
is_given (String s) = all_are is_byte s
is_given _ = true
