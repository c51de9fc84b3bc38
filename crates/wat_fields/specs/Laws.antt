-- Laws of the definitions: lemmas that definitions or other crates use.
pub mod DataVal
pub mod Local
pub mod Numbers
pub mod Payload
pub mod RefFuncs
