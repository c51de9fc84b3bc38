-- How the fields of a module are listed.
use Rattle.std.specs.Prelude.{sum_by, ℕ, List, [], ◌++◌, Option, Some, None, length, map, flat_map, codes}
use Rattle.wat_core.specs.Prelude.{ModuleFieldModel, a_type, a_rec, an_import, a_func, a_table, a_memory, a_global, an_export, a_start, an_elem, a_data, a_tag, a_custom, CustomModel, raw, produced, linked, ExpressionModel, DataKindModel, DataValModel, bytes_in, ElemKindModel, Segment, MemoryKindModel, ElemPayloadModel, indices, exprs, TableKindModel, ImportItemsModel, single, group1, group2, ExportKind, IndexModel}
use Rattle.wat_fields.specs.Func.{FuncKindModel}
use Rattle.wat_fields.specs.Global.{GlobalKindModel}
use Rattle.wat_show.specs.Expressions.{below}
use Rattle.wat_show.specs.Types.{index_text}
use Rattle.wat_show.specs.Words.{counted}
use Rattle.wat_fields.specs.Data as segments
use Rattle.wat_fields.specs.Elem as elems
use Rattle.wat_fields.specs.Func as funcs
use Rattle.wat_fields.specs.Global as globals
use Rattle.wat_fields.specs.Memory as memories
use Rattle.wat_fields.specs.Table as tables
use Rattle.wat_links.specs.declared.export.ExportKind.TheVariants as kind

-- ---- parts of lines

-- the total number of bytes of the pieces
abbrev pub byte_count : List (List ℕ) → ℕ
byte_count pieces = sum_by length pieces

-- the lines of expressions, in order
abbrev pub all_below : List ExpressionModel → List ℕ
all_below es = flat_map below es

-- ---- imports and exports

-- `single 1`; or the kind of the group, and the number of its items
abbrev pub import_text : ImportItemsModel → List ℕ
import_text (single n s) = counted (codes "import single ") 1
import_text (group1 is) = counted (codes "import group1 ") (length is)
import_text (group2 s is) = counted (codes "import group2 ") (length is)

-- `export`, and the word for the kind of the export
abbrev pub export_text : ExportKind → List ℕ
export_text kind.Func = codes "export func\n"
export_text kind.Table = codes "export table\n"
export_text kind.Memory = codes "export memory\n"
export_text kind.Global = codes "export global\n"
export_text kind.Tag = codes "export tag\n"

-- ---- functions, globals and tags

-- `import`; or `inline`, the number of locals, and the body
abbrev pub func_text : FuncKindModel → List ℕ
func_text (funcs.imported i exact) = codes "func import\n"
func_text (funcs.inline ls body) = counted (codes "func inline ") (length ls) ++ below body

-- `import`; or `inline`, and the initial value
abbrev pub global_text : GlobalKindModel → List ℕ
global_text (globals.imported i) = codes "global import\n"
global_text (globals.inline e) = codes "global inline\n" ++ below e

-- `import` if the tag is imported, otherwise `inline`
abbrev pub tag_text : Option (List ℕ × List ℕ) → List ℕ
tag_text (Some i) = codes "tag import\n"
tag_text None = codes "tag inline\n"

-- ---- tables and element segments

-- `indices` or `exprs`, and their number
abbrev pub payload_line : ElemPayloadModel → List ℕ
payload_line (indices is) = counted (codes "indices ") (length is)
payload_line (exprs t es) = counted (codes "exprs ") (length es)

-- the lines of the expressions of a payload
abbrev pub payload_lines : ElemPayloadModel → List ℕ
payload_lines (indices is) = []
payload_lines (exprs t es) = all_below es

-- the lines of an expression, if there is an expression
abbrev pub optional_lines : Option ExpressionModel → List ℕ
optional_lines (Some e) = below e
optional_lines None = []

-- `import`; `normal`, and the initial value of the elements; or `inline`, and the payload
abbrev pub table_text : TableKindModel → List ℕ
table_text (tables.imported i t) = codes "table import\n"
table_text (tables.normal t e) = codes "table normal\n" ++ optional_lines e
table_text (tables.inline t is64 shared p) =
    codes "table inline " ++ (payload_line p ++ payload_lines p)

-- `elem`, and the word for the kind of the segment
abbrev pub elem_word : ElemKindModel → List ℕ
elem_word elems.passive = codes "elem passive "
elem_word elems.declared = codes "elem declared "
elem_word (elems.active t offset) = codes "elem active "

-- the lines of the offset of a segment
abbrev pub offset_lines : ElemKindModel → List ℕ
offset_lines elems.passive = []
offset_lines elems.declared = []
offset_lines (elems.active t offset) = below offset

-- the line of the kind and the payload, then the lines of the offset, then the lines of the payload
abbrev pub elem_text : Segment → List ℕ
elem_text s = elem_word s.0 ++ (payload_line s.1 ++ (offset_lines s.0 ++ payload_lines s.1))

-- ---- memories and data segments

-- the total number of bytes of the values
abbrev pub vals_count : List DataValModel → ℕ
vals_count vs = byte_count (map bytes_in vs)

-- `import`; `normal`; or `inline`, and the number of bytes
abbrev pub memory_text : MemoryKindModel → List ℕ
memory_text (memories.imported i t) = codes "memory import\n"
memory_text (memories.normal t) = codes "memory normal\n"
memory_text (memories.inline is64 page vs) = counted (codes "memory inline ") (vals_count vs)

-- `passive` or `active`, and the number of bytes; after `active`, the lines of the offset
abbrev pub data_text : DataKindModel → List DataValModel → List ℕ
data_text segments.passive vs = counted (codes "data passive ") (vals_count vs)
data_text (segments.active i offset) vs =
    counted (codes "data active ") (vals_count vs) ++ below offset

-- ---- custom sections

-- `raw` and the number of bytes; `producers` and the number of fields; or `dylink.0` and the number of subsections
abbrev pub custom_text : CustomModel → List ℕ
custom_text (raw r) = counted (codes "custom raw ") (byte_count r.«data»)
custom_text (produced fs) = counted (codes "custom producers ") (length fs)
custom_text (linked ss) = counted (codes "custom dylink.0 ") (length ss)

-- ---- the start function

-- `start` and the index
abbrev pub start_text : IndexModel → List ℕ
start_text i = codes "start " ++ (index_text i ++ codes "\n")

-- ---- a field

-- the line of a field, then the lines of its expressions
unfoldable pub field_text : ModuleFieldModel → List ℕ
field_text (a_type t) = codes "type\n"
field_text (a_rec ts) = counted (codes "rec ") (length ts)
field_text (an_import i) = import_text i.items
field_text (a_func f) = func_text f.kind
field_text (a_table t) = table_text t.kind
field_text (a_memory m) = memory_text m.kind
field_text (a_global g) = global_text g.kind
field_text (an_export e) = export_text e.kind
field_text (a_start i) = start_text i
field_text (an_elem e) = elem_text e.segment
field_text (a_data d) = data_text d.kind d.vals
field_text (a_tag t) = tag_text t.import
field_text (a_custom c) = custom_text c
