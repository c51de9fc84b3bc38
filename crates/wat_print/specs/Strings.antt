-- How names and strings of bytes are written.
use Rattle.std.specs.Prelude.{◌≡◌, ℕ, Bool, true, List, ◌∷◌}
use Rattle.std.specs.Str.{is_utf8}
use Rattle.wat_lexer.specs.Token.{Token, String}
use Rattle.wat_print.specs.Form.{Test, Form, token_form}
use Rattle.wat_print.specs.WellFormed.{is_byte}
use Rattle.wat_print.specs.Text.{all_are}

-- each number is below 256
abbrev pub printable_string : List ℕ → Bool
printable_string s = all_are is_byte s

abbrev pub OfStrings : Test → Test → Type 0
OfStrings rest test = (s : List ℕ) (y : List Token) → rest y ≡ true → test (String s ∷ y) ≡ true

-- a string of bytes
abbrev pub string_form : Form (List ℕ)
string_form = token_form (λ s. String s) printable_string OfStrings

-- a string of text
abbrev pub text_form : Form (List ℕ)
text_form = token_form (λ s. String s) is_utf8 OfStrings
