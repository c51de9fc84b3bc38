pub use Rattle.wat_scopes.specs.Known
pub use Rattle.wat_scopes.specs.Spaces
pub use Rattle.wat_types.specs.Define
pub mod Named
pub mod Types
