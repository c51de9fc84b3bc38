mod Added
mod Digits
pub mod InstructionText
pub mod Lines
pub mod Showing
