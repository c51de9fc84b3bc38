pub mod Grouped
pub mod Produced
mod Single
pub mod Unprintable
