-- Fields of a module.
use Rattle.std.specs.Prelude.{Bool, true, List, codes}
use Rattle.wat_fields.specs.Prelude.{IndexModel, index_view, index, made, where_else, after_word, Production, no_items, TypeModel, type_view, type_, rec_view, rec, CustomModel, custom_view, custom, ExportModel, export_view, export_, imports, ImportsModel, imports_view, DataModel, data_view, data_segment, ElemModel, elem_view, elem, FuncModel, func_view, func, GlobalModel, global_view, global, MemoryModel, memory_view, memory, TableModel, table_view, table, TagModel, tag_view, tag, at_word}
use Rattle.wat_types.specs.Define.{heapless_type}
use Rattle.wat_links.specs.Custom.{heapless_custom}
use Rattle.wat_links.specs.Import.{HeldName, heapless_imports}
use Rattle.wat_fields.specs.Data.{heapless_data}
use Rattle.wat_fields.specs.Elem.{heapless_elem}
use Rattle.wat_fields.specs.Func.{heapless_func}
use Rattle.wat_fields.specs.Global.{heapless_global}
use Rattle.wat_fields.specs.Memory.{heapless_memory}
use Rattle.wat_fields.specs.Table.{heapless_table}
use Rattle.wat_fields.specs.Tag.{heapless_tag}
use Rattle.wat_types.specs.declared.define.Rec.{Rec}
use Rattle.wat_tokens.specs.declared.index.Index.{Index}
use Rattle.wat_links.specs.declared.custom.Custom.{Custom}
use Rattle.wat_links.specs.declared.export.Export.{Export}
use Rattle.wat_links.specs.declared.import.ImportsOf.{ImportsOf}
use Rattle.wat_links.specs.declared.item.ItemSig.{ItemSig}
use Rattle.wat_fields.specs.declared.data.Data.{Data}
use Rattle.wat_fields.specs.declared.elem.Elem.{Elem}
use Rattle.wat_fields.specs.declared.func.Func.{Func}
use Rattle.wat_fields.specs.declared.global.Global.{Global}
use Rattle.wat_fields.specs.declared.memory.Memory.{Memory}
use Rattle.wat_fields.specs.declared.table.Table.{Table}
use Rattle.wat_fields.specs.declared.tag.Tag.{Tag}
use Rattle.wat_core.specs.declared.field.ModuleFieldOf.{ModuleFieldOf}
use Rattle.wat_types.specs.declared.define.«Type».{«Type»}
use Rattle.wat_core.specs.declared.field.ModuleFieldOf.TheVariants as code

-- ---- views

-- a field of one of thirteen kinds
pub data ModuleFieldModel : Type 0 where
  a_type : TypeModel → ModuleFieldModel
  a_rec : List TypeModel → ModuleFieldModel
  an_import : ImportsModel → ModuleFieldModel
  a_func : FuncModel → ModuleFieldModel
  a_table : TableModel → ModuleFieldModel
  a_memory : MemoryModel → ModuleFieldModel
  a_global : GlobalModel → ModuleFieldModel
  an_export : ExportModel → ModuleFieldModel
  a_start : IndexModel → ModuleFieldModel
  an_elem : ElemModel → ModuleFieldModel
  a_data : DataModel → ModuleFieldModel
  a_tag : TagModel → ModuleFieldModel
  a_custom : CustomModel → ModuleFieldModel

-- a field as the code has it
abbrev pub ModuleField : Type 0
ModuleField =
    ModuleFieldOf «Type» Rec (ImportsOf HeldName ItemSig) Func Table Memory Global Export Index Elem
    Data Tag Custom

abbrev pub field_view : ModuleField → ModuleFieldModel
field_view (code.«Type» t) = a_type (type_view t)
field_view (code.Rec r) = a_rec (rec_view r)
field_view (code.Import i) = an_import (imports_view i)
field_view (code.Func f) = a_func (func_view f)
field_view (code.Table t) = a_table (table_view t)
field_view (code.Memory m) = a_memory (memory_view m)
field_view (code.Global g) = a_global (global_view g)
field_view (code.Export e) = an_export (export_view e)
field_view (code.Start i) = a_start (index_view i)
field_view (code.Elem e) = an_elem (elem_view e)
field_view (code.Data d) = a_data (data_view d)
field_view (code.Tag t) = a_tag (tag_view t)
field_view (code.Custom c) = a_custom (custom_view c)

-- the heapless test of the field's kind
abbrev pub heapless_field : ModuleFieldModel → Bool
heapless_field (a_type t) = heapless_type t
heapless_field (a_rec ts) = no_items ts
heapless_field (an_import i) = heapless_imports i
heapless_field (a_func f) = heapless_func f
heapless_field (a_table t) = heapless_table t
heapless_field (a_memory m) = heapless_memory m
heapless_field (a_global g) = heapless_global g
heapless_field (an_export e) = true
heapless_field (a_start i) = true
heapless_field (an_elem e) = heapless_elem e
heapless_field (a_data d) = heapless_data d
heapless_field (a_tag t) = heapless_tag t
heapless_field (a_custom c) = heapless_custom c

-- ---- the grammar: the next keyword or annotation decides the kind

-- `start` idx
unfoldable pub start : Production IndexModel
start = after_word (codes "start") index

-- Start | Elem | Data | Custom
unfoldable pub start_or_later_field : Production ModuleFieldModel
start_or_later_field =
    where_else (at_word (codes "start")) (made a_start start)
    (where_else (at_word (codes "elem")) (made an_elem elem)
    (where_else (at_word (codes "data")) (made a_data data_segment)
    (made a_custom custom)))

-- Global | Export | Tag | start_or_later_field
unfoldable pub global_or_later_field : Production ModuleFieldModel
global_or_later_field =
    where_else (at_word (codes "global")) (made a_global global)
    (where_else (at_word (codes "export")) (made an_export export_)
    (where_else (at_word (codes "tag")) (made a_tag tag)
    start_or_later_field))

-- Func | Table | Memory | global_or_later_field
unfoldable pub func_or_later_field : Production ModuleFieldModel
func_or_later_field =
    where_else (at_word (codes "func")) (made a_func func)
    (where_else (at_word (codes "table")) (made a_table table)
    (where_else (at_word (codes "memory")) (made a_memory memory)
    global_or_later_field))

-- Type | Rec | Imports | func_or_later_field
unfoldable pub module_field : Production ModuleFieldModel
module_field =
    where_else (at_word (codes "type")) (made a_type type_)
    (where_else (at_word (codes "rec")) (made a_rec rec)
    (where_else (at_word (codes "import")) (made an_import imports)
    func_or_later_field))
