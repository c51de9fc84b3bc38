-- Laws: the fields of a module are read again.
use Rattle.std.proofs.Common.{codes, refl, rules, arith}
use Rattle.wat_core.specs.Prelude.{at_word, ModuleFieldModel, a_type, a_rec, an_import, a_func, a_table, a_memory, a_global, an_export, a_start, an_elem, a_data, a_tag, a_custom, start, start_or_later_field, global_or_later_field, func_or_later_field, module_field, field_group}
use Rattle.wat_print_module.specs.Prelude.{pick, Prints, Inside, made_prints, after_prints, else_inside, grouped_prints, whole_prints, index_prints}
use Rattle.wat_print.specs.Laws.Define.{type_prints, rec_prints}
use Rattle.wat_print_module.specs.Field.{LateTree, MiddleTree, EarlyTree, FieldTree, start_form, late_form, middle_form, early_form, kinds_form, field_parts, field_form}
use Rattle.wat_print.specs.Laws.Annotation.{inside}
use Rattle.wat_print_module.specs.Laws.Custom.{custom_inside}
use Rattle.wat_print_module.specs.Laws.Data.{data_prints}
use Rattle.wat_print_module.specs.Laws.Elem.{elem_prints}
use Rattle.wat_print_module.specs.Laws.Export.{export_prints}
use Rattle.wat_print_module.specs.Laws.Func.{func_prints}
use Rattle.wat_print_module.specs.Laws.Global.{global_field_prints}
use Rattle.wat_print_module.specs.Laws.Import.{imports_prints}
use Rattle.wat_print_module.specs.Laws.Memory.{memory_field_prints}
use Rattle.wat_print_module.specs.Laws.Table.{table_field_prints}
use Rattle.wat_print_module.specs.Laws.Tag.{tag_prints}

start_prints : Prints start_form start
unfolding start
start_prints = after_prints index_prints (codes "start") refl refl

abbrev late_view : LateTree → ModuleFieldModel
late_view = pick a_start (pick an_elem (pick a_data a_custom))

late_inside : Inside late_form late_view start_or_later_field
unfolding start_or_later_field
late_inside =
    else_inside (at_word (codes "start")) (inside (made_prints start_prints a_start) refl)
    (else_inside (at_word (codes "elem")) (inside (made_prints elem_prints an_elem) refl)
    (else_inside (at_word (codes "data")) (inside (made_prints data_prints a_data) refl)
    (made_prints custom_inside a_custom) (search rules) (search rules)) (search rules)
    (search rules)) (search rules) (search rules)

abbrev middle_view : MiddleTree → ModuleFieldModel
middle_view = pick a_global (pick an_export (pick a_tag late_view))

middle_inside : Inside middle_form middle_view global_or_later_field
unfolding global_or_later_field
middle_inside =
    else_inside (at_word (codes "global"))
    (inside (made_prints global_field_prints a_global) refl)
    (else_inside (at_word (codes "export")) (inside (made_prints export_prints an_export) refl)
    (else_inside (at_word (codes "tag")) (inside (made_prints tag_prints a_tag) refl)
    late_inside (search rules) (search rules)) (search rules) (search rules))
    (search rules) (search rules)

abbrev early_view : EarlyTree → ModuleFieldModel
early_view = pick a_func (pick a_table (pick a_memory middle_view))

early_inside : Inside early_form early_view func_or_later_field
unfolding func_or_later_field
early_inside =
    else_inside (at_word (codes "func")) (inside (made_prints func_prints a_func) refl)
    (else_inside (at_word (codes "table"))
    (inside (made_prints table_field_prints a_table) refl)
    (else_inside (at_word (codes "memory"))
    (inside (made_prints memory_field_prints a_memory) refl) middle_inside (search rules)
    (search rules)) (search rules) (search rules)) (search rules) (search rules)

abbrev kinds_view : FieldTree → ModuleFieldModel
kinds_view = pick a_type (pick a_rec (pick an_import early_view))

kinds_inside : Inside kinds_form kinds_view module_field
unfolding module_field
kinds_inside =
    else_inside (at_word (codes "type")) (inside (made_prints type_prints a_type) refl)
    (else_inside (at_word (codes "rec")) (inside (made_prints rec_prints a_rec) refl)
    (else_inside (at_word (codes "import")) (inside (made_prints imports_prints an_import) refl)
    early_inside (search rules) (search rules)) (search rules) (search rules))
    (search rules) (search rules)

pub field_prints : Prints field_form field_group
field_prints =
    grouped_prints (whole_prints kinds_inside field_parts (λ f h. grind arith)
    (λ f h. grind arith) (λ v h. grind arith))
