-- Laws of the definitions: lemmas that definitions or other crates rest on.
pub mod Order
pub mod TableIndex
pub mod Word
