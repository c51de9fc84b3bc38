-- The task of `check` with its options.
use Rattle.std.specs.Prelude.{Bool, if◌then◌else◌}
use Rattle.wat.specs.declared.command.CheckOptions.{CheckOptions}
use Rattle.wat_answers.specs.declared.task.Extent.{Extent}
use Rattle.wat_answers.specs.declared.task.Extent.TheVariants.{Syntax, Names}
use Rattle.wat_answers.specs.declared.task.Task.{Task}
use Rattle.wat_answers.specs.declared.task.Task.TheVariants.{Check, Json}

-- what a check covers, with `--syntax` or without
abbrev pub extent_of : Bool → Extent
extent_of syntax = if syntax then Syntax else Names

abbrev pub check_task : CheckOptions → Task
check_task options =
    if options.json then Json (extent_of options.syntax) else Check (extent_of options.syntax)
