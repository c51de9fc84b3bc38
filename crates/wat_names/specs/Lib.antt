pub use Rattle.wat_core.specs.Module
pub use Rattle.wat_instr_uses.specs.Names as InstrNames
pub use Rattle.wat_scopes.specs.FaultModels
pub use Rattle.wat_scopes.specs.Known
pub mod Bodies
pub mod Defined
pub mod Found
pub mod Marks
pub mod Names
pub mod Numbered
pub mod Used
