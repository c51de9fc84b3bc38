-- Integers as contracts see them.
use Rattle.std.specs.Prelude.{ℕ, List}
use Rattle.wat_lexer.specs.declared.number.Integer.{Integer}

-- the text of an integer
abbrev pub text_of : Integer → List ℕ
text_of i = i.text.now
