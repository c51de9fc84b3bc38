-- The names that files of this crate and of the crates above it import most, passed on from one place.
-- Declares nothing.
pub use Rattle.std.specs.List.{filter}
pub use Rattle.wat_answers.specs.Prelude.{Appends, position_or_len, string_bytes}
pub use Rattle.wat.specs.Commands.{is_end, is_file}
pub use Rattle.wat.specs.Runs.{AnswersNames}
