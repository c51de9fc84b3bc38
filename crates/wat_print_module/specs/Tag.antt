-- How tags are written.
use Rattle.std.specs.Prelude.{ℕ, List, codes, Option}
use Rattle.wat_core.specs.Prelude.{FieldHeadModel, begins_inline_import, TagModel}
use Rattle.wat_print_instr.specs.Prelude.{FunctionTypeModel, TypeUseModel, Form, seq_form, by, option_form, after_form, use_form}
use Rattle.wat_print_module.specs.FieldHead.{inline_import_form, head_form}

-- InlineImport?
abbrev pub tag_import_form : Form (Option (List ℕ × List ℕ))
tag_import_form = option_form begins_inline_import inline_import_form

abbrev pub tag_parts : TagModel
    → FieldHeadModel × (Option (List ℕ × List ℕ) × TypeUseModel FunctionTypeModel)
tag_parts t = (t.head, (t.import, t.ty))

-- tag head InlineImport? TypeUse
abbrev pub tag_form : Form TagModel
tag_form =
    by tag_parts (after_form (codes "tag") (seq_form head_form (seq_form tag_import_form use_form)))
