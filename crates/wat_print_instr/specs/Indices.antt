-- How indices, pairs of indices, and branch tables are written.
use Rattle.std.specs.Prelude.{ℕ, zero, Bool, true, false, not, ◌&&◌, if◌then◌else◌, List, [], ◌∷◌, ◌++◌, flat_map, ◌⊎◌}
use Rattle.std.proofs.Common.{inl, inr}
use Rattle.wat_print.specs.Prelude.{IndexModel, number, begins_index, second, Form, behind_form, seq_form, by_where, told_form, many_form, printable_index, index_form, each}
use Rattle.wat_operands.specs.Branch.{BrTableModel}
use Rattle.wat_print_instr.specs.Form.{default_form}
use Rattle.wat_print_instr.specs.Numbers.{unsigned_form}

-- the number 0
abbrev pub is_index_0 : IndexModel → Bool
is_index_0 (number zero) = true
is_index_0 _ = false

-- nothing for index 0
abbrev pub index_or_0_form : Form IndexModel
index_or_0_form = default_form printable_index begins_index is_index_0 index_form

abbrev pub pair_form : Form (IndexModel × IndexModel)
pair_form = behind_form begins_index index_form index_form

-- only the segment, if the target is 0
abbrev pub init_parts : IndexModel × IndexModel → IndexModel × IndexModel ⊎ IndexModel
init_parts p = if is_index_0 p.0 then inr p.1 else inl p

-- the target unless the target is 0, and the segment
abbrev pub init_form : Form (IndexModel × IndexModel)
init_form =
    by_where pair_form.printable init_parts
    (told_form (λ r. not (begins_index r)) (second begins_index) pair_form index_form)

abbrev pub both_0 : IndexModel × IndexModel → Bool
both_0 p = is_index_0 p.0 && is_index_0 p.1

-- nothing if both are 0
abbrev pub copy_form : Form (IndexModel × IndexModel)
copy_form = default_form pair_form.printable begins_index both_0 pair_form

-- the type, and the length
abbrev pub sized_form : Form (IndexModel × ℕ)
sized_form = seq_form index_form (unsigned_form 32)

-- the first index, and the others
abbrev pub table_from : List IndexModel → IndexModel → IndexModel × List IndexModel
table_from [] d = (d, [])
table_from (l ∷ ls) d = (l, ls ++ d ∷ [])

abbrev pub printable_br_table : BrTableModel → Bool
printable_br_table b = each printable_index b.labels && printable_index b.default

-- the labels, and the default after them
abbrev pub br_table_form : Form BrTableModel
br_table_form =
    record (by_where printable_br_table (λ b. table_from b.labels b.default)
    (seq_form index_form (many_form begins_index index_form))) {
      spell = λ b. flat_map index_form.spell b.labels ++ index_form.spell b.default;
    }
