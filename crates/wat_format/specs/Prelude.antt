-- The names that files of this crate and of the crates above it import most, passed on from one place.
-- Declares nothing.
pub use Rattle.wat_lexer.specs.Laws.Prelude.{not-true, nat_tests, take-append-drop, IsCharBoundary, IsUtf8, is_space, Begins, Closed, Cuts, Fails, FirstFault, IsCut, in_no_run, at_front, one_cut, offset_of, Annotation, Id, Integer, Keyword, LParen, Placed, RParen, Reserved, String, Token, is_open, tokens_of, IfFault}
unfoldable pub use Rattle.wat_lexer.specs.Laws.Prelude.{class}
pub use Rattle.wat_lexer.specs.Laws.Classes.{KnownRight, class_right}
pub use Rattle.wat_lexer.specs.declared.fault.Error.{Error}
pub use Rattle.wat_lexer.specs.declared.fault.Fault.{Fault}
pub use Rattle.wat_format.specs.Parts.{Comment, HasParts, Part, SameButSpaces, a_comment, a_token, comment, done, space, token, toks_in}
pub use Rattle.wat_format.specs.Shapes.{AllSpaces, Follows, IsOfShape, Separates, groups_behind, is_opening, no_bytes, part_of}
