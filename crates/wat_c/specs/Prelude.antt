-- The names that files of this crate and of the crates above it import most, passed on from one place.
-- Declares nothing.
pub use Rattle.wat_answers.specs.declared.notice.Notice.{Notice}
pub use Rattle.wat_c.specs.Faults.{notice_words, record_of, words_of}
unfoldable pub use Rattle.wat_c.specs.Faults.{records_of}
