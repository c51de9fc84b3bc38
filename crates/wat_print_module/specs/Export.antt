-- How exports and their types are written.
use Rattle.std.specs.Prelude.{ℕ, List, codes}
use Rattle.wat_core.specs.Prelude.{ExportModel, ExportTypeModel, ExportKind, export_kind_word}
use Rattle.wat_print_instr.specs.Prelude.{IndexModel, Form, seq_form, by, paren_form, after_form, index_form, named_form, text_form}
use Rattle.wat_print_module.specs.Item.{sig_form}
use Rattle.wat_links.specs.declared.export.ExportKind.TheVariants as code

abbrev pub export_kind_form : Form ExportKind
export_kind_form = named_form export_kind_word

abbrev pub export_parts : ExportModel → List ℕ × (ExportKind × IndexModel)
export_parts e = (e.name, (e.kind, e.item))

-- export name ( word idx )
abbrev pub export_form : Form ExportModel
export_form =
    by export_parts (after_form (codes "export")
    (seq_form text_form (paren_form (seq_form export_kind_form index_form))))

-- export name ( ItemSig )
abbrev pub export_type_form : Form ExportTypeModel
export_type_form = after_form (codes "export") (seq_form text_form (paren_form sig_form))
