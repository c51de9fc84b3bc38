pub use Rattle.wat_lexer.specs.Cut
pub use Rattle.wat_lexer.specs.Offset
pub use Rattle.wat_lexer.specs.Token
pub mod Commands
pub mod Laws
pub mod Scripts
pub mod Steps
pub mod Visible
