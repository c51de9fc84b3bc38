-- Signatures of imported or exported items.
use Rattle.std.specs.Prelude.{◌≡◌, ℕ, Bool, true, false, List, codes}
use Rattle.wat_types.specs.Prelude.{Production, seq, made, where_else, after_word, group, at_word, second_word, function_view, heapless_function, function_type, FunctionTypeModel, at_func, Label, label_view, label, TableTypeModel, table_type_view, table_type, memory_type, GlobalTypeModel, global_type_view, global_type, tag_type_view, tag_type, TypeUseModel, use_view, heapless_use, type_use, SameFunction, SameUse}
use Rattle.wat_types.specs.Tag.{SameTag}
use Rattle.wat_types.specs.declared.function.FunctionType.{FunctionType}
use Rattle.wat_types.specs.declared.limits.MemoryType.{MemoryType}
use Rattle.wat_types.specs.declared.type_use.TypeUse.{TypeUse}
use Rattle.wat_links.specs.declared.item.ItemKind.{ItemKind}
use Rattle.wat_links.specs.declared.item.ItemSig.{ItemSig}
use Rattle.wat_links.specs.declared.item.ItemKind.TheVariants as code

-- ---- views

pub data ItemKindModel : Type 0 where
  func : TypeUseModel FunctionTypeModel → ItemKindModel
  table : TableTypeModel → ItemKindModel
  memory : MemoryType → ItemKindModel
  global : GlobalTypeModel → ItemKindModel
  tag : TypeUseModel FunctionTypeModel → ItemKindModel
  exact_func : TypeUseModel FunctionTypeModel → ItemKindModel

-- a signature, with the label of the item
pub record ItemSigModel : Type 0 where
  pub label : Label
  pub kind : ItemKindModel

abbrev pub sig_of : Label → ItemKindModel → ItemSigModel
sig_of l k = record { label = l; kind = k }

abbrev pub item_kind_view : ItemKind → ItemKindModel
item_kind_view (code.Func u) = func (use_view function_view u)
item_kind_view (code.Table t) = table (table_type_view t)
item_kind_view (code.Memory m) = memory m
item_kind_view (code.Global g) = global (global_type_view g)
item_kind_view (code.Tag t) = tag (tag_type_view t)
item_kind_view (code.FuncExact u) = exact_func (use_view function_view u)

abbrev pub sig_view : ItemSig → ItemSigModel
sig_view s = sig_of (label_view s.id s.name) (item_kind_view s.kind)

-- a type use, and whether it is exact
abbrev pub exact_use_view : TypeUse FunctionType × Bool → TypeUseModel FunctionTypeModel × Bool
exact_use_view u = (use_view function_view u.0, u.1)

-- has no inline parameter or result
abbrev pub heapless_exact_use : TypeUseModel FunctionTypeModel × Bool → Bool
heapless_exact_use u = heapless_use heapless_function u.0

abbrev pub heapless_item_kind : ItemKindModel → Bool
heapless_item_kind (func u) = heapless_use heapless_function u
heapless_item_kind (table t) = true
heapless_item_kind (memory m) = true
heapless_item_kind (global g) = true
heapless_item_kind (tag u) = heapless_use heapless_function u
heapless_item_kind (exact_func u) = heapless_use heapless_function u

abbrev pub heapless_sig : ItemSigModel → Bool
heapless_sig s = heapless_item_kind s.kind

-- ---- the grammar

-- a type use of a function type
abbrev pub func_use : Production (TypeUseModel FunctionTypeModel)
func_use = type_use at_func function_type

-- ( exact TypeUse ) if the second token is `exact`; else TypeUse
unfoldable pub exact_use : Production (TypeUseModel FunctionTypeModel × Bool)
exact_use =
    where_else (second_word (codes "exact"))
    (made (λ u. (u, true)) (group (codes "exact") func_use)) (made (λ u. (u, false)) func_use)

abbrev pub func_kind_of : TypeUseModel FunctionTypeModel × Bool → ItemKindModel
func_kind_of (u, true) = exact_func u
func_kind_of (u, false) = func u

-- the type use of a function, exact or not
unfoldable pub func_kind : Production ItemKindModel
func_kind = made func_kind_of exact_use

-- the word, id? name?, and then k
abbrev pub item_of : List ℕ → Production ItemKindModel → Production ItemSigModel
item_of w k = made (λ v. sig_of v.0 v.1) (after_word w (seq label k))

-- `global id? name?` GlobalType | `tag id? name?` TagType
unfoldable pub global_or_tag : Production ItemSigModel
global_or_tag =
    where_else (at_word (codes "global")) (item_of (codes "global") (made global global_type))
    (item_of (codes "tag") (made tag tag_type))

-- `func id? name?`, and a type use, exact or not | `table id? name?` TableType | `memory id? name?`
-- MemoryType | global or tag
unfoldable pub item_sig : Production ItemSigModel
item_sig =
    where_else (at_word (codes "func")) (item_of (codes "func") func_kind)
    (where_else (at_word (codes "table")) (item_of (codes "table") (made table table_type))
    (where_else (at_word (codes "memory")) (item_of (codes "memory") (made memory memory_type))
    global_or_tag))

-- ---- one signature and its clone

-- the same variant, with the same type
abbrev pub SameKind : ItemKind → ItemKind → Type 0
SameKind (code.Func u) (code.Func v) = SameUse SameFunction u v
SameKind (code.Table t) (code.Table s) = t ≡ s
SameKind (code.Memory m) (code.Memory n) = m ≡ n
SameKind (code.Global g) (code.Global h) = g ≡ h
SameKind (code.Tag t) (code.Tag s) = SameTag t s
SameKind (code.FuncExact u) (code.FuncExact v) = SameUse SameFunction u v
SameKind _ _ = ⊥

-- the same in each part, also the positions
abbrev pub SameSig : ItemSig → ItemSig → Type 0
SameSig s t = (s.span ≡ t.span) × (s.id ≡ t.id) × (s.name ≡ t.name) × SameKind s.kind t.kind
