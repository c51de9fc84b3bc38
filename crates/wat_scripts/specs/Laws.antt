-- Laws of the definitions.
pub mod Commands
pub mod Visible
