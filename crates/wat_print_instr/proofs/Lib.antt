pub mod FoldedWritten
pub mod Walked
