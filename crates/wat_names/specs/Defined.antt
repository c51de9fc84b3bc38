-- The names that the fields of a module define.
use Rattle.std.specs.Prelude.{ℕ, List, [], ◌∷◌, ◌++◌, Option, Some, None, flat_map}
use Rattle.wat_core.specs.Prelude.{ModuleFieldModel, FunctionTypeModel, FuncModel, ImportItemsModel, single, group1, group2, ItemSigModel, LocalModel, a_type, a_rec, an_import, a_func, a_table, a_memory, a_global, an_elem, a_data, a_tag}
use Rattle.wat_links.specs.Item.{ItemKindModel}
use Rattle.wat_fields.specs.Func.{FuncKindModel}
use Rattle.wat_types.specs.Define.{TypeModel, InnerTypeKindModel, struct_}
use Rattle.wat_types.specs.Group.{ParamModel}
use Rattle.wat_types.specs.Struct.{StructFieldModel}
use Rattle.wat_scopes.specs.Spaces.{SpaceModel, NameModel, types, funcs, tables, memories, globals, tags, elems, datas, locals, fields_at, fields_of}
use Rattle.wat_type_uses.specs.Named.{by_id}
use Rattle.wat_names.specs.Numbered.{numbered}
use Rattle.wat_links.specs.Item as item
use Rattle.wat_fields.specs.Func as func

-- ---- types

abbrev pub types_of : ModuleFieldModel → List TypeModel
types_of (a_type t) = t ∷ []
types_of (a_rec ts) = ts
types_of _ = []

-- the types of a module, in the order of their numbers
abbrev pub types_in : List ModuleFieldModel → List TypeModel
types_in fs = flat_map types_of fs

abbrev pub members_in : SpaceModel → List StructFieldModel → List NameModel
members_in s ms = flat_map (λ m. by_id s m.label.id) ms

-- the fields of a structure type
abbrev pub kind_members : SpaceModel → InnerTypeKindModel → List NameModel
kind_members s (struct_ ms) = members_in s ms
kind_members s _ = []

abbrev pub fields_in : SpaceModel → TypeModel → List NameModel
fields_in s t = kind_members s t.def.kind

-- the type with the number k, and its fields
abbrev pub type_names : ℕ → TypeModel → List NameModel
type_names k t = by_id types t.label.id ++ fields_in (fields_at k) t

-- the fields of a type that has a name, by this name
abbrev pub named_fields : Option (List ℕ) → TypeModel → List NameModel
named_fields None t = []
named_fields (Some x) t = fields_in (fields_of x) t

abbrev pub type_aliases : TypeModel → List NameModel
type_aliases t = named_fields t.label.id t

-- ---- imports

abbrev pub item_space : ItemKindModel → SpaceModel
item_space (item.func u) = funcs
item_space (item.table t) = tables
item_space (item.memory m) = memories
item_space (item.global g) = globals
item_space (item.tag t) = tags
item_space (item.exact_func u) = funcs

abbrev pub item_names : ItemSigModel → List NameModel
item_names s = by_id (item_space s.kind) s.label.id

-- The items of a group that share a signature have no identifiers.
abbrev pub items_names : ImportItemsModel → List NameModel
items_names (single n s) = item_names s
items_names (group1 is) = flat_map (λ i. item_names i.1) is
items_names (group2 s ns) = []

-- ---- functions

abbrev pub params_names : ℕ → List ParamModel → List NameModel
params_names k ps = flat_map (λ p. by_id (locals k) p.label.id) ps

-- Only the parameters that are written have identifiers: those of the type that an index names
-- don't (Core Specification, Text Format, Modules, "Type Uses").
abbrev pub inline_names : ℕ → Option FunctionTypeModel → List NameModel
inline_names k None = []
inline_names k (Some f) = params_names k f.params

abbrev pub locals_names : ℕ → List LocalModel → List NameModel
locals_names k ls = flat_map (λ l. by_id (locals k) l.label.id) ls

abbrev pub func_locals : ℕ → Option FunctionTypeModel → FuncKindModel → List NameModel
func_locals k t (func.imported i exact) = []
func_locals k t (func.inline ls e) = inline_names k t ++ locals_names k ls

abbrev pub func_names : ℕ → FuncModel → List NameModel
func_names k f = by_id funcs f.head.label.id ++ func_locals k f.ty.inline f.kind

-- ---- fields

-- what the field with the index k defines, without types
abbrev pub field_names : ℕ → ModuleFieldModel → List NameModel
field_names k (an_import i) = items_names i.items
field_names k (a_func f) = func_names k f
field_names k (a_table t) = by_id tables t.head.label.id
field_names k (a_memory m) = by_id memories m.head.label.id
field_names k (a_global g) = by_id globals g.head.label.id
field_names k (an_elem e) = by_id elems e.label.id
field_names k (a_data d) = by_id datas d.label.id
field_names k (a_tag t) = by_id tags t.head.label.id
field_names k _ = []

-- all that fields define
abbrev pub defined : List ModuleFieldModel → List NameModel
defined fs = numbered type_names 0 (types_in fs) ++ numbered field_names 0 fs

-- other names for the same: the fields of a type by the type's name
abbrev pub aliases : List ModuleFieldModel → List NameModel
aliases fs = flat_map type_aliases (types_in fs)
