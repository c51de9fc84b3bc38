pub mod CatchAll
pub mod Rows
