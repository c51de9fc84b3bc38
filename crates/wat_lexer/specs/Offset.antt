-- Places in a text.
use Rattle.std.specs.Prelude.{ℕ}
use Rattle.wat_lexer.specs.declared.span.Span.{Span}

-- the offset of the position, in bytes from the start of the text
abbrev pub offset_of : Span → ℕ
offset_of s = s.offset
