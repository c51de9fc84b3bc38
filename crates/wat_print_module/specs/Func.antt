-- How functions are written.
use Rattle.std.specs.Prelude.{ℕ, Bool, List, codes, ◌⊎◌}
use Rattle.std.proofs.Common.{inl, inr}
use Rattle.wat_core.specs.Prelude.{FieldHeadModel, begins_inline_import, imported, FuncUse, FuncModel, LocalModel}
use Rattle.wat_print_instr.specs.Prelude.{ExpressionModel, any, Form, seq_form, by, else_form, after_form, use_form, next_form}
use Rattle.wat_fields.specs.Func.{inline, DefinedFunc}
use Rattle.wat_print_module.specs.Expression.{ends_expression, expression_form}
use Rattle.wat_print_module.specs.FieldHead.{inline_import_form, head_form}
use Rattle.wat_print_module.specs.Item.{exact_form}
use Rattle.wat_print_module.specs.Local.{locals_form}

-- ( local .. )* Expression
-- A group of locals tells its first tokens before any rest, so `Fronts` asks less than in
-- `next_form`.
abbrev pub body_form : Form (List LocalModel × ExpressionModel)
body_form = record (next_form ends_expression locals_form expression_form) {
  Fronts = λ rest test. locals_form.Fronts any test × expression_form.Fronts rest test;
}

-- TypeUse ( local .. )* Expression
abbrev pub inline_func_form : Form (FuncUse × (List LocalModel × ExpressionModel))
inline_func_form = next_form ends_expression use_form body_form

abbrev pub DefinedTree : Type 0
DefinedTree = (List ℕ × List ℕ) × (FuncUse × Bool) ⊎ FuncUse × (List LocalModel × ExpressionModel)

abbrev pub defined_func_parts : DefinedFunc → DefinedTree
defined_func_parts (u, imported i exact) = inl (i, (u, exact))
defined_func_parts (u, inline ls e) = inr (u, (ls, e))

-- InlineImport, and a type use, exact or not | TypeUse ( local .. )* Expression
abbrev pub defined_func_form : Form DefinedFunc
defined_func_form =
    by defined_func_parts (else_form begins_inline_import
    (seq_form inline_import_form exact_form) inline_func_form)

abbrev pub func_parts : FuncModel → FieldHeadModel × DefinedFunc
func_parts f = (f.head, (f.ty, f.kind))

-- func head, and the type and the definition of the function
abbrev pub func_form : Form FuncModel
func_form = by func_parts (after_form (codes "func") (seq_form head_form defined_func_form))
