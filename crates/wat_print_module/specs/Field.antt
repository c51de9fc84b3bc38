-- How the fields of a module are written.
use Rattle.std.specs.Prelude.{List, codes, ◌⊎◌}
use Rattle.std.proofs.Common.{inl, inr}
use Rattle.wat_core.specs.Prelude.{IndexModel, begins_word, CustomModel, ExportModel, ImportsModel, DataModel, ElemModel, FuncModel, GlobalModel, MemoryModel, TableModel, TagModel, ModuleFieldModel, a_type, a_rec, an_import, a_func, a_table, a_memory, a_global, an_export, a_start, an_elem, a_data, a_tag, a_custom}
use Rattle.wat_print_instr.specs.Prelude.{Form, by, else_form, paren_form, after_form, index_form}
use Rattle.wat_types.specs.Define.{TypeModel}
use Rattle.wat_print.specs.Define.{type_form, rec_form}
use Rattle.wat_print_module.specs.Custom.{custom_form}
use Rattle.wat_print_module.specs.Data.{data_form}
use Rattle.wat_print_module.specs.Elem.{elem_form}
use Rattle.wat_print_module.specs.Export.{export_form}
use Rattle.wat_print_module.specs.Func.{func_form}
use Rattle.wat_print_module.specs.Global.{global_field_form}
use Rattle.wat_print_module.specs.Import.{imports_form}
use Rattle.wat_print_module.specs.Memory.{memory_field_form}
use Rattle.wat_print_module.specs.Table.{table_field_form}
use Rattle.wat_print_module.specs.Tag.{tag_form}

-- start idx
abbrev pub start_form : Form IndexModel
start_form = after_form (codes "start") index_form

-- ---- the kinds of fields, in the order in which the grammar asks for their first word

abbrev pub LateTree : Type 0
LateTree = IndexModel ⊎ (ElemModel ⊎ (DataModel ⊎ CustomModel))

abbrev pub MiddleTree : Type 0
MiddleTree = GlobalModel ⊎ (ExportModel ⊎ (TagModel ⊎ LateTree))

abbrev pub EarlyTree : Type 0
EarlyTree = FuncModel ⊎ (TableModel ⊎ (MemoryModel ⊎ MiddleTree))

abbrev pub FieldTree : Type 0
FieldTree = TypeModel ⊎ (List TypeModel ⊎ (ImportsModel ⊎ EarlyTree))

abbrev pub late_form : Form LateTree
late_form =
    else_form (begins_word (codes "start")) start_form
    (else_form (begins_word (codes "elem")) elem_form
    (else_form (begins_word (codes "data")) data_form custom_form))

abbrev pub middle_form : Form MiddleTree
middle_form =
    else_form (begins_word (codes "global")) global_field_form
    (else_form (begins_word (codes "export")) export_form
    (else_form (begins_word (codes "tag")) tag_form late_form))

abbrev pub early_form : Form EarlyTree
early_form =
    else_form (begins_word (codes "func")) func_form
    (else_form (begins_word (codes "table")) table_field_form
    (else_form (begins_word (codes "memory")) memory_field_form middle_form))

abbrev pub kinds_form : Form FieldTree
kinds_form =
    else_form (begins_word (codes "type")) type_form
    (else_form (begins_word (codes "rec")) rec_form
    (else_form (begins_word (codes "import")) imports_form early_form))

abbrev pub field_parts : ModuleFieldModel → FieldTree
field_parts (a_type t) = inl t
field_parts (a_rec ts) = inr (inl ts)
field_parts (an_import i) = inr (inr (inl i))
field_parts (a_func f) = inr (inr (inr (inl f)))
field_parts (a_table t) = inr (inr (inr (inr (inl t))))
field_parts (a_memory m) = inr (inr (inr (inr (inr (inl m)))))
field_parts (a_global g) = inr (inr (inr (inr (inr (inr (inl g))))))
field_parts (an_export e) = inr (inr (inr (inr (inr (inr (inr (inl e)))))))
field_parts (a_tag t) = inr (inr (inr (inr (inr (inr (inr (inr (inl t))))))))
field_parts (a_start i) = inr (inr (inr (inr (inr (inr (inr (inr (inr (inl i)))))))))
field_parts (an_elem e) = inr (inr (inr (inr (inr (inr (inr (inr (inr (inr (inl e))))))))))
field_parts (a_data d) = inr (inr (inr (inr (inr (inr (inr (inr (inr (inr (inr (inl d)))))))))))
field_parts (a_custom c) = inr (inr (inr (inr (inr (inr (inr (inr (inr (inr (inr (inr c)))))))))))

-- a field without its parentheses
abbrev pub content_form : Form ModuleFieldModel
content_form = by field_parts kinds_form

-- ( ModuleField )
abbrev pub field_form : Form ModuleFieldModel
field_form = paren_form content_form
