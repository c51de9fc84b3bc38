use Rattle.std.specs.Prelude.{◌≡◌, ◌++◌, drop, Some, None}
use Rattle.wat_scopes.specs.Imports.{import_faults, late_imports}
use Rattle.wat_scopes.specs.declared.fault.Note.TheVariants.{First}
use Rattle.wat_scopes.proofs.imports.check_imports.Given as goal

abbrev pub invariant-loop-mark : goal.invariant-loop-mark
invariant-loop-mark l =
    l.fn.out.items ++ late_imports l.marks
    ≡ l.out.items ++ elim l.first [
      | None ↦ late_imports (drop l.mark-index l.marks)
      | Some d ↦ import_faults (First d) (drop l.mark-index l.marks)
    ]
