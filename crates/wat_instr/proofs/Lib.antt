pub mod Blocks
pub mod Firsts
pub mod Following
pub mod Operands
pub mod RowFamilies
pub mod Standing
pub mod Words
