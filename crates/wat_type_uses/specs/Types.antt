-- The names that types use, in the order of the text. Each is the identifier of a type (Core
-- Specification, Text Format, "Types").
use Rattle.std.specs.Prelude.{List, [], ◌++◌, Option, Some, None, flat_map}
use Rattle.wat_types.specs.Heap.{HeapTypeModel, abstract_, concrete, exact}
use Rattle.wat_types.specs.Reference.{RefTypeModel}
use Rattle.wat_types.specs.Value.{ValTypeModel}
use Rattle.wat_types.specs.Define.{InnerTypeKindModel, TypeDefModel, func, struct_, array, cont}
use Rattle.wat_types.specs.Group.{FunctionTypeModel, ParamModel}
use Rattle.wat_types.specs.Storage.{StorageTypeModel, val}
use Rattle.wat_types.specs.Struct.{StructFieldModel}
use Rattle.wat_types.specs.Use.{TypeUseModel}
use Rattle.wat_scopes.specs.Spaces.{NameModel, types}
use Rattle.wat_type_uses.specs.Named.{by_index, by_indices, by_optional}
use Rattle.wat_types.specs.Value as value

-- a heap type: the name of a concrete or an exact type
abbrev pub heap_uses : HeapTypeModel → List NameModel
heap_uses (concrete i) = by_index types i
heap_uses (exact i) = by_index types i
heap_uses (abstract_ shared t) = []

-- a reference type
abbrev pub ref_uses : RefTypeModel → List NameModel
ref_uses t = heap_uses t.heap

-- a value type: only reference types use names
abbrev pub val_uses : ValTypeModel → List NameModel
val_uses (value.ref t) = ref_uses t
val_uses _ = []

-- value types, in order
abbrev pub vals_uses : List ValTypeModel → List NameModel
vals_uses ts = flat_map val_uses ts

-- the types of parameters, in order
abbrev pub params_uses : List ParamModel → List NameModel
params_uses ps = flat_map (λ p. val_uses p.ty) ps

-- a function type: its parameters, then its results
abbrev pub function_uses : FunctionTypeModel → List NameModel
function_uses f = params_uses f.params ++ vals_uses f.results

-- an inline function type, if there is one
abbrev pub inline_uses : Option FunctionTypeModel → List NameModel
inline_uses None = []
inline_uses (Some f) = function_uses f

-- a type use: its index, then its inline type
abbrev pub type_use_uses : TypeUseModel FunctionTypeModel → List NameModel
type_use_uses u = by_optional types u.index ++ inline_uses u.inline

-- a storage type: packed types use no name
abbrev pub storage_uses : StorageTypeModel → List NameModel
storage_uses (val t) = val_uses t
storage_uses _ = []

-- the types of the fields of a structure, in order
abbrev pub members_uses : List StructFieldModel → List NameModel
members_uses ms = flat_map (λ m. storage_uses m.field.ty) ms

-- the composite type of a type definition
abbrev pub kind_uses : InnerTypeKindModel → List NameModel
kind_uses (func f) = function_uses f
kind_uses (struct_ ms) = members_uses ms
kind_uses (array f) = storage_uses f.ty
kind_uses (cont i) = by_index types i

-- a type definition: its supertypes, its descriptor, the type that it describes, its composite type
abbrev pub def_uses : TypeDefModel → List NameModel
def_uses d =
    by_indices types d.parents
    ++ (by_optional types d.descriptor ++ (by_optional types d.describes ++ kind_uses d.kind))
