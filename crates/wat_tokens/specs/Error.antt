-- The faults, for the crates that use this crate.
pub use Rattle.wat_lexer.specs.declared.fault.Error.{Error}
pub use Rattle.wat_lexer.specs.declared.fault.Fault.{Fault}
pub use Rattle.wat_lexer.specs.declared.fault.Fault.TheVariants.{Memory, LexChar, LexString}
pub use Rattle.wat_lexer.specs.declared.fault.Fault.TheVariants.{LexComment, LexAnnotation}
pub use Rattle.wat_lexer.specs.declared.fault.Fault.TheVariants.{Unexpected, Range, Utf8}
pub use Rattle.wat_lexer.specs.declared.fault.Fault.TheVariants.{FloatLiteral, Alignment, PageSize}
pub use Rattle.wat_lexer.specs.declared.fault.Fault.TheVariants.{Operator, ParamAfterResult}
pub use Rattle.wat_lexer.specs.declared.fault.Fault.TheVariants.{IfWithoutThen, IfTooMany}
pub use Rattle.wat_lexer.specs.declared.fault.Fault.TheVariants.{HintValue, HintTwice, HintPlace}
pub use Rattle.wat_lexer.specs.declared.fault.Fault.TheVariants.{ImportMixed, ImportId, HintTarget}
