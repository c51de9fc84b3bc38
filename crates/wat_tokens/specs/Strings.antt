-- Strings and texts.
use Rattle.std.specs.Prelude.{ℕ, List, Option, None, Some, if◌then◌else◌, refl}
use Rattle.std.specs.Str.{is_utf8}
use Rattle.wat_lexer.specs.Token.{Token, String}
use Rattle.wat_tokens.specs.Tests.{as_string}
use Rattle.wat_tokens.specs.Production.{Production}
use Rattle.wat_tokens.specs.Parts.{one}

-- string, as its content
abbrev pub string : Production (List ℕ)
string = one as_string (refl, refl)

-- the content of a string that is UTF-8
abbrev pub text_in : Token → Option (List ℕ)
text_in (String s) = if is_utf8 s then Some s else None
text_in _ = None

-- name: a string that is UTF-8
abbrev pub text : Production (List ℕ)
text = one text_in (refl, refl)
