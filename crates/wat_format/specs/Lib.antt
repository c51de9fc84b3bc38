pub use Rattle.wat_lexer.specs.Cut
pub use Rattle.wat_lexer.specs.Token
pub mod Parts
pub mod Shapes
pub mod Prelude
