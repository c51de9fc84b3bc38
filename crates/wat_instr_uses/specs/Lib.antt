pub use Rattle.wat_instr.specs.Prelude
pub use Rattle.wat_operand_uses.specs.Operands
pub mod Names
pub mod Steps
