-- Laws of the definitions: lemmas that definitions or other crates rest on.
pub mod Define
pub mod Exponent
pub mod FieldType
pub mod Function
pub mod FunctionSpells
pub mod Group
pub mod Limits
pub mod Named
pub mod Order
pub mod Struct
pub mod Unlabelled
pub mod Value
