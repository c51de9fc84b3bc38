-- How data segments are written.
use Rattle.std.specs.Prelude.{not, List, codes, Option, Some, None}
use Rattle.std.proofs.Common.{inr}
use Rattle.wat_print_instr.specs.Prelude.{IndexModel, begins_integer, Label, ExpressionModel, Form, seq_form, by, by_where, unwritten_form, else_form, option_form, after_form, group_form, printable_index, index_form, label_form, default_form, is_index_0, unsigned_form}
use Rattle.wat_fields.specs.DataVal.{DataValModel}
use Rattle.wat_fields.specs.Data.{DataKindModel, passive, active, DataModel, begins_passive, memory_follows}
use Rattle.wat_print_module.specs.DataVal.{data_vals_form}
use Rattle.wat_print_module.specs.Expression.{expression_form}

-- ( offset Expression )
abbrev pub offset_form : Form ExpressionModel
offset_form = group_form (codes "offset") expression_form

-- ( memory idx ), or nothing for memory 0; a number alone is only read
abbrev pub data_memory_form : Form IndexModel
data_memory_form =
    by_where printable_index inr (else_form begins_integer (unwritten_form (unsigned_form 32))
    (default_form printable_index memory_follows is_index_0
    (group_form (codes "memory") index_form)))

abbrev pub data_kind_parts : DataKindModel → Option (IndexModel × ExpressionModel)
data_kind_parts passive = None
data_kind_parts (active i e) = Some (i, e)

-- the memory and the offset of an active segment
abbrev pub data_kind_form : Form DataKindModel
data_kind_form =
    by data_kind_parts (option_form (λ t. not (begins_passive t))
    (seq_form data_memory_form offset_form))

abbrev pub data_parts : DataModel → Label × (DataKindModel × List DataValModel)
data_parts d = (d.label, (d.kind, d.vals))

-- data id? name? kind DataVal*
abbrev pub data_form : Form DataModel
data_form =
    by data_parts (after_form (codes "data")
    (seq_form label_form (seq_form data_kind_form data_vals_form)))
