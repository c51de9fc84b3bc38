-- Modules.
use Rattle.std.specs.Prelude.{ℕ, Bool, List, codes, map}
use Rattle.std.proofs.Common.{lit≤}
use Rattle.wat_fields.specs.Prelude.{Bor, many, seq, made, where_else, after_word, Production, string, no_items, at_word, at_more, Label, label_view, label}
use Rattle.wat_core.specs.Field.{ModuleFieldModel, ModuleField, field_view}
use Rattle.wat_core.specs.declared.module.ModuleKindOf.{ModuleKindOf}
use Rattle.wat_core.specs.FieldGroup.{field_group}
use Rattle.wat_core.specs.Laws.Module.{field_group_consumes}
use Rattle.wat_core.specs.declared.module.«Module».{«Module»}
use Rattle.wat_core.specs.declared.module.ModuleKindOf.TheVariants as code

-- ---- views

-- the fields of a module, or the pieces of its binary format
pub data ModuleKindModel : Type 0 where
  text : List ModuleFieldModel → ModuleKindModel
  binary : List (List ℕ) → ModuleKindModel

pub record ModuleModel : Type 0 where
  pub label : Label
  pub kind : ModuleKindModel

abbrev pub module_with : Label → ModuleKindModel → ModuleModel
module_with l k = record { label = l; kind = k }

-- a reference to the bytes of a piece
abbrev pub Piece : Type 0
Piece = Bor (List ℕ)

abbrev pub fields_view : List ModuleField → List ModuleFieldModel
fields_view fs = map field_view fs

abbrev pub module_kind_view : ModuleKindOf ModuleField Piece → ModuleKindModel
module_kind_view (code.Text fs) = text (fields_view fs.items)
module_kind_view (code.Binary ss) = binary (map (λ s. s.now) ss.items)

abbrev pub module_view : «Module» → ModuleModel
module_view m = module_with (label_view m.id m.name) (module_kind_view m.kind)

-- no field and no piece
abbrev pub heapless_module_kind : ModuleKindModel → Bool
heapless_module_kind (text fs) = no_items fs
heapless_module_kind (binary ss) = no_items ss

abbrev pub heapless_module : ModuleModel → Bool
heapless_module m = heapless_module_kind m.kind

-- ---- the grammar

-- ( ModuleField )*, to the end
unfoldable pub fields : Production (List ModuleFieldModel)
fields = many at_more field_group field_group_consumes

-- bytes*, to the end
unfoldable pub pieces : Production (List (List ℕ))
pieces = many at_more string (lit≤ tt)

-- `binary` bytes* if `binary` is next; otherwise ( ModuleField )*
unfoldable pub module_kind : Production ModuleKindModel
module_kind =
    where_else (at_word (codes "binary")) (made binary (after_word (codes "binary") pieces))
    (made text fields)

-- `module id? name?`, and then the contents
unfoldable pub module_ : Production ModuleModel
module_ = after_word (codes "module") (made (λ v. module_with v.0 v.1) (seq label module_kind))
