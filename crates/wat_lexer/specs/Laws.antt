-- Laws of the definitions: lemmas that other crates use.
pub mod Bytes
pub mod Cases
pub mod Classes
pub mod Fronts
pub mod Hidden
pub mod Kinds
pub mod Pieces
pub mod Strings
pub mod VisibleFrom
pub mod Prelude
