-- Laws of the definitions: lemmas that other crates use.
pub mod Expression
pub mod ExpressionOnly
pub mod Folded
pub mod FoldedOnly
pub mod Form
pub mod Instruction
pub mod Numbers
pub mod OperandFront
pub mod Indices
pub mod Access
pub mod Vectors
pub mod Control
pub mod Prelude
