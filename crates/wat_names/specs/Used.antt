-- The names that the fields of a module use outside expressions.
use Rattle.std.specs.Prelude.{List, [], ◌++◌, flat_map}
use Rattle.wat_core.specs.Prelude.{ModuleFieldModel, ElemPayloadModel, ExportKind, indices, exprs, FuncModel, ImportItemsModel, single, group1, group2, ItemSigModel, LocalModel, a_type, a_rec, an_import, a_func, a_table, a_memory, a_global, an_export, a_start, an_elem, a_data, a_tag, a_custom}
use Rattle.wat_links.specs.Item.{ItemKindModel}
use Rattle.wat_fields.specs.Func.{FuncKindModel}
use Rattle.wat_fields.specs.Table.{TableKindModel}
use Rattle.wat_fields.specs.Elem.{ElemKindModel}
use Rattle.wat_fields.specs.Data.{DataKindModel}
use Rattle.wat_scopes.specs.Spaces.{SpaceModel, NameModel, funcs, tables, memories, globals, tags}
use Rattle.wat_type_uses.specs.Named.{by_index, by_indices, by_optional}
use Rattle.wat_type_uses.specs.Types.{ref_uses, val_uses, type_use_uses, def_uses}
use Rattle.wat_links.specs.Item as item
use Rattle.wat_fields.specs.Func as func
use Rattle.wat_fields.specs.Table as table
use Rattle.wat_fields.specs.Elem as elem
use Rattle.wat_fields.specs.Data as segment
use Rattle.wat_links.specs.declared.export.ExportKind.TheVariants as kind

abbrev pub locals_uses : List LocalModel → List NameModel
locals_uses ls = flat_map (λ l. val_uses l.ty) ls

abbrev pub func_kind_uses : FuncKindModel → List NameModel
func_kind_uses (func.imported i exact) = []
func_kind_uses (func.inline ls e) = locals_uses ls

abbrev pub func_uses : FuncModel → List NameModel
func_uses f = type_use_uses f.ty ++ func_kind_uses f.kind

abbrev pub item_kind_uses : ItemKindModel → List NameModel
item_kind_uses (item.func u) = type_use_uses u
item_kind_uses (item.table t) = ref_uses t.elem
item_kind_uses (item.memory m) = []
item_kind_uses (item.global g) = val_uses g.ty
item_kind_uses (item.tag u) = type_use_uses u
item_kind_uses (item.exact_func u) = type_use_uses u

abbrev pub item_uses : ItemSigModel → List NameModel
item_uses s = item_kind_uses s.kind

abbrev pub items_uses : ImportItemsModel → List NameModel
items_uses (single n s) = item_uses s
items_uses (group1 is) = flat_map (λ i. item_uses i.1) is
items_uses (group2 s ns) = item_uses s

abbrev pub payload_uses : ElemPayloadModel → List NameModel
payload_uses (indices is) = by_indices funcs is
payload_uses (exprs t es) = ref_uses t

abbrev pub table_uses : TableKindModel → List NameModel
table_uses (table.imported i t) = ref_uses t.elem
table_uses (table.normal t e) = ref_uses t.elem
table_uses (table.inline t is64 shared p) = ref_uses t ++ payload_uses p

abbrev pub export_space : ExportKind → SpaceModel
export_space kind.Func = funcs
export_space kind.Table = tables
export_space kind.Memory = memories
export_space kind.Global = globals
export_space kind.Tag = tags

abbrev pub elem_kind_uses : ElemKindModel → List NameModel
elem_kind_uses elem.passive = []
elem_kind_uses elem.declared = []
elem_kind_uses (elem.active t e) = by_optional tables t

abbrev pub data_kind_uses : DataKindModel → List NameModel
data_kind_uses segment.passive = []
data_kind_uses (segment.active i e) = by_index memories i

abbrev pub field_uses : ModuleFieldModel → List NameModel
field_uses (a_type t) = def_uses t.def
field_uses (a_rec ts) = flat_map (λ t. def_uses t.def) ts
field_uses (an_import i) = items_uses i.items
field_uses (a_func f) = func_uses f
field_uses (a_table t) = table_uses t.kind
field_uses (a_memory m) = []
field_uses (a_global g) = val_uses g.ty.ty
field_uses (an_export e) = by_index (export_space e.kind) e.item
field_uses (a_start i) = by_index funcs i
field_uses (an_elem e) = elem_kind_uses e.segment.0 ++ payload_uses e.segment.1
field_uses (a_data d) = data_kind_uses d.kind
field_uses (a_tag t) = type_use_uses t.ty
field_uses (a_custom c) = []

abbrev pub fields_uses : List ModuleFieldModel → List NameModel
fields_uses fs = flat_map field_uses fs
