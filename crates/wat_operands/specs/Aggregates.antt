-- Operands of instructions on structures, arrays and continuations.
use Rattle.std.specs.Prelude.{ℕ}
use Rattle.wat_types.specs.Prelude.{Production, seq, IndexModel, index_view, index, unsigned, Index}
use Rattle.wat_operands.specs.declared.aggregates.ArrayCopyOf.{ArrayCopyOf}
use Rattle.wat_operands.specs.declared.aggregates.ArrayFillOf.{ArrayFillOf}
use Rattle.wat_operands.specs.declared.aggregates.ArrayInitOf.{ArrayInitOf}
use Rattle.wat_operands.specs.declared.aggregates.ArrayNewDataOf.{ArrayNewDataOf}
use Rattle.wat_operands.specs.declared.aggregates.ArrayNewElemOf.{ArrayNewElemOf}
use Rattle.wat_operands.specs.declared.aggregates.ArrayNewFixedOf.{ArrayNewFixedOf}
use Rattle.wat_operands.specs.declared.aggregates.ContBindOf.{ContBindOf}
use Rattle.wat_operands.specs.declared.aggregates.StructAccessOf.{StructAccessOf}
use Rattle.wat_operands.specs.declared.aggregates.SwitchOf.{SwitchOf}

-- the structure type, and the field
abbrev pub struct_access_view : StructAccessOf Index → IndexModel × IndexModel
struct_access_view s = (index_view s.struct_, index_view s.field)

-- the argument, and the result
abbrev pub cont_bind_view : ContBindOf Index → IndexModel × IndexModel
cont_bind_view b = (index_view b.argument_index, index_view b.result_index)

-- the type, and the tag
abbrev pub switch_view : SwitchOf Index → IndexModel × IndexModel
switch_view s = (index_view s.type_index, index_view s.tag_index)

abbrev pub array_fill_view : ArrayFillOf Index → IndexModel
array_fill_view a = index_view a.array

-- the destination, and the source
abbrev pub array_copy_view : ArrayCopyOf Index → IndexModel × IndexModel
array_copy_view a = (index_view a.dest_array, index_view a.src_array)

-- the array, and the segment
abbrev pub array_init_view : ArrayInitOf Index → IndexModel × IndexModel
array_init_view a = (index_view a.array, index_view a.segment)

-- the array, and the length
abbrev pub array_new_fixed_view : ArrayNewFixedOf Index → IndexModel × ℕ
array_new_fixed_view a = (index_view a.array, a.length)

-- the array, and the data segment
abbrev pub array_new_data_view : ArrayNewDataOf Index → IndexModel × IndexModel
array_new_data_view a = (index_view a.array, index_view a.data_idx)

-- the array, and the element segment
abbrev pub array_new_elem_view : ArrayNewElemOf Index → IndexModel × IndexModel
array_new_elem_view a = (index_view a.array, index_view a.elem_idx)

-- idx u32
unfoldable pub array_of_length : Production (IndexModel × ℕ)
array_of_length = seq index (unsigned 32)
