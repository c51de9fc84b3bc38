-- The names that files of this crate and of the crates above it import most, passed on from one place.
-- Declares nothing.
pub use Rattle.std.proofs.lemmas.Bool.{ne_eqb}
pub use Rattle.std.proofs.lemmas.List.{get_or_past}
pub use Rattle.wat_lexer.specs.Cut.{FirstFault}
pub use Rattle.wat_mnemonics.specs.Prelude.{eqb-true, le-ltb, nat_tests, IsCharBoundary-after_ascii, IsCharBoundary, IsUtf8, IsCut, offset_of, Placed, is_close, is_open, tokens_of, no_entry, placed, Fault, Memory}
pub use Rattle.wat_report.specs.Diagnostic.{IsDiagnostic}
unfoldable pub use Rattle.wat_report.specs.Escapes.{escapes_len}
pub use Rattle.wat_report.specs.Front.{HasGroups}
unfoldable pub use Rattle.wat_report.specs.Front.{count_before}
unfoldable pub use Rattle.wat_report.specs.Nearest.{distance}
pub use Rattle.wat_report.specs.Positions.{begins_char, begins_line, char_start}
unfoldable pub use Rattle.wat_report.specs.Positions.{last_up_to}
unfoldable pub use Rattle.wat_report.specs.Report.{IsReport, report_text}
pub use Rattle.wat_report.specs.WrongBytes.{IsFirstWrongByte}
