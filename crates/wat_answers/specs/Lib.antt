pub mod Checked
pub mod Formatted
pub mod Notices
pub mod Outcomes
pub mod Prelude
