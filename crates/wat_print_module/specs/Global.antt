-- How globals are written.
use Rattle.std.specs.Prelude.{ℕ, List, codes, ◌⊎◌}
use Rattle.std.proofs.Common.{inl, inr}
use Rattle.wat_core.specs.Prelude.{FieldHeadModel, begins_inline_import}
use Rattle.wat_print_instr.specs.Prelude.{GlobalTypeModel, ExpressionModel, Form, seq_form, by, else_form, after_form, global_form}
use Rattle.wat_fields.specs.Global.{GlobalModel, imported, inline, DefinedGlobal}
use Rattle.wat_print_module.specs.Expression.{expression_form}
use Rattle.wat_print_module.specs.FieldHead.{inline_import_form, head_form}

abbrev pub defined_global_parts : DefinedGlobal
    → (List ℕ × List ℕ) × GlobalTypeModel ⊎ GlobalTypeModel × ExpressionModel
defined_global_parts (t, imported i) = inl (i, t)
defined_global_parts (t, inline e) = inr (t, e)

-- InlineImport GlobalType | GlobalType Expression
abbrev pub defined_global_form : Form DefinedGlobal
defined_global_form =
    by defined_global_parts (else_form begins_inline_import
    (seq_form inline_import_form global_form) (seq_form global_form expression_form))

abbrev pub global_field_parts : GlobalModel → FieldHeadModel × DefinedGlobal
global_field_parts g = (g.head, (g.ty, g.kind))

-- global head, and the type and the definition of the global
abbrev pub global_field_form : Form GlobalModel
global_field_form =
    by global_field_parts (after_form (codes "global") (seq_form head_form defined_global_form))
