-- What the fields of a module are for the order of imports (Core Specification, Text Format,
-- "Modules").
use Rattle.std.specs.Prelude.{ℕ, List, [], ◌∷◌, Option, Some, None, flat_map}
use Rattle.wat_core.specs.Prelude.{ModuleFieldModel, an_import, a_func, a_table, a_memory, a_global, a_tag}
use Rattle.wat_fields.specs.Func.{FuncKindModel}
use Rattle.wat_fields.specs.Global.{GlobalKindModel}
use Rattle.wat_fields.specs.Memory.{MemoryKindModel}
use Rattle.wat_fields.specs.Table.{TableKindModel}
use Rattle.wat_scopes.specs.FaultModels.{MarkModel, import_, definition}
use Rattle.wat_fields.specs.Func as funcs
use Rattle.wat_fields.specs.Global as globals
use Rattle.wat_fields.specs.Memory as memories
use Rattle.wat_fields.specs.Table as tables

abbrev pub func_mark : FuncKindModel → MarkModel
func_mark (funcs.imported i exact) = import_
func_mark (funcs.inline ls e) = definition

abbrev pub table_mark : TableKindModel → MarkModel
table_mark (tables.imported i t) = import_
table_mark (tables.normal t e) = definition
table_mark (tables.inline t is64 shared p) = definition

abbrev pub memory_mark : MemoryKindModel → MarkModel
memory_mark (memories.imported i t) = import_
memory_mark (memories.normal t) = definition
memory_mark (memories.inline is64 p ds) = definition

abbrev pub global_mark : GlobalKindModel → MarkModel
global_mark (globals.imported i) = import_
global_mark (globals.inline e) = definition

-- a tag, by the names of its inline import
abbrev pub tag_mark : Option (List ℕ × List ℕ) → MarkModel
tag_mark None = definition
tag_mark (Some i) = import_

abbrev pub field_marks : ModuleFieldModel → List MarkModel
field_marks (an_import i) = import_ ∷ []
field_marks (a_func f) = func_mark f.kind ∷ []
field_marks (a_table t) = table_mark t.kind ∷ []
field_marks (a_memory m) = memory_mark m.kind ∷ []
field_marks (a_global g) = global_mark g.kind ∷ []
field_marks (a_tag t) = tag_mark t.import ∷ []
field_marks _ = []

abbrev pub marks : List ModuleFieldModel → List MarkModel
marks fs = flat_map field_marks fs
