-- The printed lines of a module.
use Rattle.std.specs.Prelude.{ℕ, List, [], ◌++◌, Option, Some, None, length, flat_map, codes, decimal}
use Rattle.wat_core.specs.Prelude.{ModuleFieldModel, a_func, an_export, ModuleModel, ModuleKindModel, text, binary, FuncModel, FuncUse, ExportModel, IndexModel, number, name, FunctionTypeModel}
use Rattle.wat_core.specs.ExportKind.{ExportKind}
use Rattle.wat_core.specs.ExportKind.TheVariants.{Func}

-- a name, a space, and the description of a type or of a function
abbrev pub line_of : List ℕ → List ℕ → List ℕ
line_of export about = export ++ (codes " " ++ (about ++ codes "\n"))

-- a name, a word, and an index: a number or an identifier
abbrev pub indexed_line : List ℕ → List ℕ → IndexModel → List ℕ
indexed_line export word (number n) = line_of export (word ++ (codes " " ++ decimal n))
indexed_line export word (name n) = line_of export (word ++ (codes " $" ++ n))

-- the number of parameters and the number of results
abbrev pub counts_line : List ℕ → FunctionTypeModel → List ℕ
counts_line export t =
    line_of export (decimal (length t.params) ++ (codes " " ++ decimal (length t.results)))

-- The line of a type use: the numbers of parameters and results if the type is written inline,
-- otherwise the index of the type. If no type is written, both numbers are 0.
abbrev pub use_line : FuncUse → List ℕ → List ℕ
use_line u export = typed u.inline u.index
  where
    typed : Option FunctionTypeModel → Option IndexModel → List ℕ
    typed (Some t) i = counts_line export t
    typed None (Some i) = indexed_line export (codes "type") i
    typed None None = line_of export (codes "0 0")

-- a line for each inline export of the function
abbrev pub func_lines : FuncModel → List ℕ
func_lines f = flat_map (use_line f.ty) f.head.exports

-- a line with the function's index for an exported function; no lines for other exports
abbrev pub export_lines : ExportModel → List ℕ
export_lines e = of_kind e.kind
  where
    of_kind : ExportKind → List ℕ
    of_kind Func = indexed_line e.name (codes "function") e.item
    of_kind _ = []

-- the lines of a function or of an export; no lines for any other field
abbrev pub field_lines : ModuleFieldModel → List ℕ
field_lines (a_func f) = func_lines f
field_lines (an_export e) = export_lines e
field_lines _ = []

-- the lines of the module's fields, in order; no lines for a module in binary format
abbrev pub module_lines : ModuleModel → List ℕ
module_lines m = of_kind m.kind
  where
    of_kind : ModuleKindModel → List ℕ
    of_kind (text fs) = flat_map field_lines fs
    of_kind (binary ps) = []
