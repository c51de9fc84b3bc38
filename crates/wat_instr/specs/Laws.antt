-- Laws of the definitions: lemmas that definitions or other crates use.
pub mod First
