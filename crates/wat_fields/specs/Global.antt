-- Globals.
use Rattle.std.specs.Prelude.{ℕ, Bool, true, ◌&&◌, List, codes}
use Rattle.wat_links.specs.Prelude.{Production, seq, made, where_else, after_word, label_view, GlobalTypeModel, global_type_view, global_type, inline_export_view, FieldHeadModel, field_head, heapless_head, head, inline_import_view, inline_import, at_inline_import}
use Rattle.wat_expr.specs.Prelude.{ExpressionModel, expression_view, heapless_expression, expression}
use Rattle.wat_types.specs.declared.storage.GlobalType.{GlobalType}
use Rattle.wat_fields.specs.declared.global.Global.{Global}
use Rattle.wat_fields.specs.declared.global.GlobalKind.{GlobalKind}
use Rattle.wat_fields.specs.declared.global.GlobalKind.TheVariants as code

-- ---- views

-- an import by its two names, or an initial value
pub data GlobalKindModel : Type 0 where
  imported : List ℕ × List ℕ → GlobalKindModel
  inline : ExpressionModel → GlobalKindModel

-- the type and the definition of a global
abbrev pub DefinedGlobal : Type 0
DefinedGlobal = GlobalTypeModel × GlobalKindModel

pub record GlobalModel : Type 0 where
  pub head : FieldHeadModel
  pub ty : GlobalTypeModel
  pub kind : GlobalKindModel

abbrev pub global_of : FieldHeadModel → DefinedGlobal → GlobalModel
global_of h d = record { head = h; ty = d.0; kind = d.1 }

abbrev pub global_kind_view : GlobalKind → GlobalKindModel
global_kind_view (code.Import i) = imported (inline_import_view i)
global_kind_view (code.Inline e) = inline (expression_view e)

abbrev pub defined_global_view : GlobalType × GlobalKind → DefinedGlobal
defined_global_view d = (global_type_view d.0, global_kind_view d.1)

abbrev pub global_view : Global → GlobalModel
global_view g =
    global_of (field_head (label_view g.id g.name) (inline_export_view g.exports))
    (global_type_view g.ty, global_kind_view g.kind)

-- no instruction
abbrev pub heapless_global_kind : GlobalKindModel → Bool
heapless_global_kind (imported i) = true
heapless_global_kind (inline e) = heapless_expression e

abbrev pub heapless_defined_global : DefinedGlobal → Bool
heapless_defined_global d = heapless_global_kind d.1

abbrev pub heapless_global : GlobalModel → Bool
heapless_global g = heapless_head g.head && heapless_global_kind g.kind

-- ---- the grammar

-- InlineImport GlobalType if an inline import is next; otherwise GlobalType Expression
unfoldable pub global_defined : Production DefinedGlobal
global_defined =
    where_else at_inline_import
    (made (λ v. (v.1, imported v.0)) (seq inline_import global_type))
    (made (λ v. (v.0, inline v.1)) (seq global_type expression))

-- `global` head, and then the type and the definition of the global
unfoldable pub global : Production GlobalModel
global = after_word (codes "global") (made (λ v. global_of v.0 v.1) (seq head global_defined))
