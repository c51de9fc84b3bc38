-- The kinds of errors: their numbers and names.
use Rattle.std.specs.Prelude.{ℕ, List}
use Rattle.wat_report.specs.declared.kind.Kind.{Kind}
use Rattle.wat_report.specs.declared.kind.Kind.TheVariants.{Parse, Names}
use Rattle.wat_lexer.specs.Faults as parse
use Rattle.wat_scopes.specs.Faults as names

abbrev pub kind_number : Kind → ℕ
kind_number (Parse f) = parse.fault_number f
kind_number (Names k) = names.fault_number k

abbrev pub kind_name : Kind → List ℕ
kind_name (Parse f) = parse.fault_name f
kind_name (Names k) = names.fault_name k
