-- Functions.
use Rattle.std.specs.Prelude.{ℕ, Bool, true, ◌&&◌, List, codes}
use Rattle.wat_links.specs.Prelude.{Production, seq, made, where_else, after_word, no_items, label_view, function_view, heapless_function, FunctionTypeModel, TypeUseModel, use_view, heapless_use, inline_export_view, FieldHeadModel, field_head, heapless_head, head, inline_import_view, inline_import, at_inline_import, func_use, exact_use}
use Rattle.wat_expr.specs.Prelude.{ExpressionModel, expression_view, heapless_expression, expression}
use Rattle.wat_types.specs.declared.function.FunctionType.{FunctionType}
use Rattle.wat_types.specs.declared.type_use.TypeUse.{TypeUse}
use Rattle.wat_fields.specs.Local.{LocalModel, locals_view}
use Rattle.wat_fields.specs.Locals.{locals}
use Rattle.wat_fields.specs.declared.func.Func.{Func}
use Rattle.wat_fields.specs.declared.func.FuncKind.{FuncKind}
use Rattle.wat_fields.specs.declared.func.FuncKind.TheVariants as code

-- ---- views

-- an import by its two names, with an exact type or not; or locals and a body
pub data FuncKindModel : Type 0 where
  imported : List ℕ × List ℕ → Bool → FuncKindModel
  inline : List LocalModel → ExpressionModel → FuncKindModel

-- a use of a function type
abbrev pub FuncUse : Type 0
FuncUse = TypeUseModel FunctionTypeModel

-- the type and the definition of a function
abbrev pub DefinedFunc : Type 0
DefinedFunc = FuncUse × FuncKindModel

pub record FuncModel : Type 0 where
  pub head : FieldHeadModel
  pub ty : FuncUse
  pub kind : FuncKindModel

abbrev pub func_of : FieldHeadModel → DefinedFunc → FuncModel
func_of h d = record { head = h; ty = d.0; kind = d.1 }

abbrev pub func_use_view : TypeUse FunctionType → FuncUse
func_use_view u = use_view function_view u

abbrev pub func_kind_view : FuncKind → FuncKindModel
func_kind_view (code.Import i b) = imported (inline_import_view i) b
func_kind_view (code.Inline ls e) = inline (locals_view ls.items) (expression_view e)

abbrev pub defined_func_view : TypeUse FunctionType × FuncKind → DefinedFunc
defined_func_view d = (func_use_view d.0, func_kind_view d.1)

abbrev pub func_view : Func → FuncModel
func_view f =
    func_of (field_head (label_view f.id f.name) (inline_export_view f.exports))
    (func_use_view f.ty, func_kind_view f.kind)

-- no parameter and no result in line
abbrev pub heapless_func_use : FuncUse → Bool
heapless_func_use u = heapless_use heapless_function u

-- no local and no instruction
abbrev pub heapless_func_kind : FuncKindModel → Bool
heapless_func_kind (imported i b) = true
heapless_func_kind (inline ls e) = no_items ls && heapless_expression e

abbrev pub heapless_defined_func : DefinedFunc → Bool
heapless_defined_func d = heapless_func_use d.0 && heapless_func_kind d.1

abbrev pub heapless_func : FuncModel → Bool
heapless_func f = heapless_head f.head && heapless_defined_func (f.ty, f.kind)

-- ---- the grammar

-- InlineImport, and a type use, exact or not
unfoldable pub func_import : Production DefinedFunc
func_import = made (λ v. (v.1.0, imported v.0 v.1.1)) (seq inline_import exact_use)

-- TypeUse ( LocalParser )* Expression
unfoldable pub func_inline : Production DefinedFunc
func_inline = made (λ v. (v.0, inline v.1.0 v.1.1)) (seq func_use (seq locals expression))

-- an inline import if one is next; otherwise a type use, locals and a body
unfoldable pub func_defined : Production DefinedFunc
func_defined = where_else at_inline_import func_import func_inline

-- `func` head, and then the type and the definition of the function
unfoldable pub func : Production FuncModel
func = after_word (codes "func") (made (λ v. func_of v.0 v.1) (seq head func_defined))
