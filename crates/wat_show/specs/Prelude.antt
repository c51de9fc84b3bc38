-- The names that files of this crate and of the crates above it import most, passed on from one place.
-- Declares nothing.
pub use Rattle.std.specs.Io.KnownBytes.{Appends}
pub use Rattle.wat_instr.specs.Instruction.{Instruction, instruction_view, op_in, operand_in}
pub use Rattle.wat_expr.specs.Expression.{hint_view}
pub use Rattle.wat_core.specs.Prelude.{length-map, IsUtf8, expression_view, Error, Memory, op_word}
pub use Rattle.wat_core.specs.LexerPlace.{offset_of}
pub use Rattle.wat_show.specs.Expressions.{AreMarks, hint_at, lines, shown_operand}
unfoldable pub use Rattle.wat_show.specs.Expressions.{instr_text}
pub use Rattle.wat_show.specs.Streams.{AppendsBeginning}
pub use Rattle.wat_show.specs.Words.{counted}
