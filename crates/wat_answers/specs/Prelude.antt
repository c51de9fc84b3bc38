-- The names that files of this crate and of the crates above it import most, passed on from one place.
-- Declares nothing.
pub use Rattle.std.specs.List.{after_first, before_first, list_all, position_or_len}
pub use Rattle.std.specs.String.{string_bytes}
pub use Rattle.wat_report.specs.Diagnostic.{IsDiagnostic}
pub use Rattle.wat_report.specs.declared.diagnostic.Diagnostic.{Diagnostic}
pub use Rattle.wat_print.specs.declared.output.Layout.TheVariants.{Indented}
pub use Rattle.wat_print_module.specs.Prelude.{list_any, bytes_eq, ModuleModel, module_view, SpellsModule, offset_of, Fault, Memory, Layout, Line}
pub use Rattle.wat_show.specs.Prelude.{length-map, Appends, AppendsBeginning}
unfoldable pub use Rattle.wat_answers.specs.Checked.{ChecksBytes}
pub use Rattle.wat_answers.specs.Formatted.{IsFormatted}
unfoldable pub use Rattle.wat_answers.specs.Formatted.{ReportsBytes}
pub use Rattle.wat_answers.specs.Notices.{further_words, more_words}
unfoldable pub use Rattle.wat_answers.specs.Outcomes.{AnswersBytes}
