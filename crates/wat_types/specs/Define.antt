-- Type definitions, and recursion groups.
use Rattle.std.specs.Prelude.{ℕ, Bool, true, false, ◌&&◌, List, [], codes, Option, Some, None, map}
use Rattle.std.proofs.Common.{lit≤}
use Rattle.wat_tokens.specs.Prelude.{Token, Production, seq, made, where_else, opt, flag, after_word, many, paren, turn, IndexModel, index_view, index, no_items, option_view, Test, at_word, run, at_index}
use Rattle.wat_types.specs.Label.{Label, label_view, label}
use Rattle.wat_types.specs.Group.{FunctionTypeModel}
use Rattle.wat_types.specs.Function.{function_view, heapless_function, function_type}
use Rattle.wat_types.specs.Struct.{array_view, StructFieldModel, struct_view}
use Rattle.wat_types.specs.declared.define.InnerTypeKind.{InnerTypeKind}
use Rattle.wat_types.specs.declared.define.TypeDef.{TypeDef}
use Rattle.wat_types.specs.FieldType.{FieldTypeModel, field_type}
use Rattle.wat_types.specs.StructType.{struct_type}
use Rattle.wat_types.specs.declared.define.InnerTypeKind.TheVariants as code
use Rattle.wat_types.specs.declared.define.«Type».{«Type»}

-- ---- composite types

-- a function type, a structure type, an array type or a continuation type
pub data InnerTypeKindModel : Type 0 where
  func : FunctionTypeModel → InnerTypeKindModel
  struct_ : List StructFieldModel → InnerTypeKindModel
  array : FieldTypeModel → InnerTypeKindModel
  cont : IndexModel → InnerTypeKindModel

abbrev pub inner_kind_view : InnerTypeKind → InnerTypeKindModel
inner_kind_view (code.Func f) = func (function_view f)
inner_kind_view (code.Struct s) = struct_ (struct_view s)
inner_kind_view (code.Array a) = array (array_view a)
inner_kind_view (code.Cont c) = cont (index_view c.0)

-- has no parameter, no result and no field
abbrev pub heapless_inner_kind : InnerTypeKindModel → Bool
heapless_inner_kind (func f) = heapless_function f
heapless_inner_kind (struct_ ms) = no_items ms
heapless_inner_kind (array f) = true
heapless_inner_kind (cont i) = true

-- `func` FunctionType | `struct` StructType | `array` ArrayType | `cont` ContType
unfoldable pub kind : Production InnerTypeKindModel
kind =
    where_else (at_word (codes "func")) (made func (after_word (codes "func") function_type))
    (where_else (at_word (codes "struct"))
    (made struct_ (after_word (codes "struct") struct_type))
    (where_else (at_word (codes "array")) (made array (after_word (codes "array") field_type))
    (made cont (after_word (codes "cont") index))))

-- ---- definitions

-- a type definition, without positions
pub record TypeDefModel : Type 0 where
  pub kind : InnerTypeKindModel
  pub shared : Bool
  pub parents : List IndexModel
  pub descriptor : Option IndexModel
  pub describes : Option IndexModel
  pub final_type : Option Bool

abbrev pub def_view : TypeDef → TypeDefModel
def_view d =
    record {
      kind = inner_kind_view d.kind;
      shared = d.shared;
      parents = map index_view d.parents.items;
      descriptor =
          option_view index_view d.descriptor;
      describes =
          option_view index_view d.describes;
      final_type = d.final_type;
    }

-- has no supertype, no parameter, no result and no field
abbrev pub heapless_def : TypeDefModel → Bool
heapless_def d = no_items d.parents && heapless_inner_kind d.kind

-- the word, an index and `) (`; no tokens if the word isn't next
unfoldable pub linked : List ℕ → Production (Option IndexModel)
linked w = opt (at_word w) (after_word w (made (λ v. v.0) (seq index turn)))

abbrev pub plain_def : Option IndexModel × (Option IndexModel × InnerTypeKindModel) → TypeDefModel
plain_def v =
    record {
      kind = v.1.1;
      shared = false;
      parents = [];
      descriptor = v.1.0;
      describes = v.0;
      final_type = None;
    }

-- (`describes` idx `) (`)?, then (`descriptor` idx `) (`)?, then InnerTypeKind
unfoldable pub described : Production TypeDefModel
described =
    made plain_def (seq (linked (codes "describes")) (seq (linked (codes "descriptor")) kind))

abbrev pub shared_def : TypeDefModel → TypeDefModel
shared_def d = record d { shared = true }

-- `shared (` K `)` | K
unfoldable pub maybe_shared : Production TypeDefModel
maybe_shared =
    where_else (at_word (codes "shared"))
    (made shared_def (after_word (codes "shared") (paren described))) described

abbrev pub sub_def : Bool × (List IndexModel × TypeDefModel) → TypeDefModel
sub_def v = record v.1.1 { parents = v.1.0; final_type = Some v.0 }

-- `sub final? idx* (` S `)` | S
unfoldable pub type_def : Production TypeDefModel
type_def =
    where_else (at_word (codes "sub"))
    (made sub_def (after_word (codes "sub")
    (seq (flag (codes "final")) (seq (many at_index index (lit≤ tt)) (paren maybe_shared)))))
    maybe_shared

-- ---- types and recursion groups

-- a type definition with its identifier and its name
pub record TypeModel : Type 0 where
  pub label : Label
  pub def : TypeDefModel

abbrev pub type_view : «Type» → TypeModel
type_view t = record { label = label_view t.id t.name; def = def_view t.def }

abbrev pub heapless_type : TypeModel → Bool
heapless_type t = heapless_def t.def

-- `type id? name? (` TypeDef `)`
unfoldable pub type_ : Production TypeModel
type_ = made (λ v. record { label = v.0; def = v.1 })
    (after_word (codes "type") (seq label (paren type_def)))

abbrev pub at_type : Test
at_type = at_word (codes "type")

abbrev pub begins_type : List Token → Bool
begins_type t = run at_type t

abbrev pub types_view : List «Type» → List TypeModel
types_view ts = map type_view ts

abbrev pub grouped_type : Production TypeModel
grouped_type = paren type_
