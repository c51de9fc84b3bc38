pub use Rattle.wat_lexer.specs.Cut
pub use Rattle.wat_lexer.specs.Token
pub mod Float
pub mod Rows
pub mod Text
pub mod Tokens
pub mod Written
pub mod Prelude
