-- How locals of functions are written.
use Rattle.std.specs.Prelude.{List, codes}
use Rattle.wat_print_instr.specs.Prelude.{Label, ValTypeModel, Form, many_form, after_form, group_form, listed_form, val_form}
use Rattle.wat_print.specs.Label.{part_form}
use Rattle.wat_fields.specs.Local.{LocalModel, local_follows}

abbrev pub local_label : LocalModel → Label
local_label l = l.label

abbrev pub local_type : LocalModel → ValTypeModel
local_type l = l.ty

-- id? name? ValType
abbrev pub listed_local_form : Form LocalModel
listed_local_form = part_form val_form local_label local_type

-- ( local id? name? ValType )
abbrev pub local_form : Form LocalModel
local_form = group_form (codes "local") listed_local_form

-- each local in a separate group
abbrev pub locals_form : Form (List LocalModel)
locals_form = many_form local_follows local_form

-- local id? name? ValType | local ValType*
abbrev pub local_parser_form : Form (List LocalModel)
local_parser_form = after_form (codes "local") (listed_form val_form local_label local_type)
