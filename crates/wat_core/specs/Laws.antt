-- Laws of the definitions: lemmas that definitions or other crates use.
pub mod Module
pub mod Sight
pub mod Text
