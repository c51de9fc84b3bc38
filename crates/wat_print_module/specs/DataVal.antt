-- How the values of data segments are written.
use Rattle.std.specs.Prelude.{ℕ, List, codes, decimal, ◌⊎◌}
use Rattle.std.proofs.Common.{inl, inr}
use Rattle.wat_print_instr.specs.Prelude.{Integer, begins_lparen, more, Form, token_form, by, else_form, many_form, group_form, OfIntegers, is_byte, string_form}
use Rattle.wat_fields.specs.DataVal.{DataValModel, written, numbers}

-- a byte, as a number
abbrev pub byte_form : Form ℕ
byte_form = token_form (λ b. Integer (decimal b)) is_byte OfIntegers

abbrev pub bytes_form : Form (List ℕ)
bytes_form = many_form more byte_form

abbrev pub data_val_parts : DataValModel → List ℕ ⊎ List ℕ
data_val_parts (numbers bs) = inl bs
data_val_parts (written bs) = inr bs

-- ( i8 number* ), a number for each byte; or a string
abbrev pub data_val_form : Form DataValModel
data_val_form =
    by data_val_parts (else_form begins_lparen (group_form (codes "i8") bytes_form) string_form)

-- DataVal*
abbrev pub data_vals_form : Form (List DataValModel)
data_vals_form = many_form more data_val_form
