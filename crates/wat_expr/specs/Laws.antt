-- Laws of the definitions: lemmas that definitions or other crates use.
pub mod Alone
pub mod Facts
pub mod Folded
pub mod Moves
pub mod Reading
