-- Laws of the definitions: lemmas that definitions or other crates rest on.
pub mod Branch
pub mod Catches
pub mod Handlers
pub mod Memory
pub mod Power
pub mod Select
