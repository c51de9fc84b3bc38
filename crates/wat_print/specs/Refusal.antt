-- The numbers of the reasons to refuse a value.
use Rattle.std.specs.Prelude.{ℕ}
use Rattle.wat_print.specs.declared.fault.Refused.{Refused}
use Rattle.wat_print.specs.declared.fault.Refused.TheVariants.{Memory, EmptyName, Label, PageSize, Parents, Alignment, Ordering, Float, Hint, Table, Section, Integer, Folded}

abbrev pub refused_number : Refused → ℕ
refused_number Memory = 1
refused_number EmptyName = 2
refused_number Label = 3
refused_number PageSize = 4
refused_number Parents = 5
refused_number Alignment = 6
refused_number Ordering = 7
refused_number Float = 8
refused_number Hint = 9
refused_number Table = 10
refused_number Section = 11
refused_number Integer = 12
refused_number Folded = 13
