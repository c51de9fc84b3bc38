-- The order of imports: no import may follow the definition of a function, table, memory, global or
-- tag (Core Specification, Text Format, "Modules").
use Rattle.std.specs.Prelude.{List, [], ◌∷◌, None}
use Rattle.wat_scopes.specs.declared.fault.NameFault.{NameFault}
use Rattle.wat_scopes.specs.declared.fault.Note.{Note}
use Rattle.wat_scopes.specs.declared.fault.Note.TheVariants.{First}
use Rattle.wat_scopes.specs.declared.imports.Mark.{Mark}
use Rattle.wat_scopes.specs.declared.imports.Mark.TheVariants.{Import, Definition}
use Rattle.wat_scopes.specs.declared.fault.FaultKind.TheVariants as kind

-- a fault for each import, at its position, with the note n
abbrev pub import_faults : Note → List Mark → List NameFault
import_faults n [] = []
import_faults n (Import s ∷ ms) = record {
  kind = kind.LateImport;
  space = None;
  id = None;
  span = s;
  note = n;
} ∷ import_faults n ms
import_faults n (Definition s ∷ ms) = import_faults n ms

-- A fault for each import after a definition: for each import after the first definition, with the
-- position of that definition.
abbrev pub late_imports : List Mark → List NameFault
late_imports [] = []
late_imports (Import s ∷ ms) = late_imports ms
late_imports (Definition s ∷ ms) = import_faults (First s) ms
