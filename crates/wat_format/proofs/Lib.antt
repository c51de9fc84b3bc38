pub mod Blanks
pub mod Cutting
pub mod Found
pub mod Gaps
pub mod Groups
pub mod OneReading
pub mod Reading
pub mod SoFar
