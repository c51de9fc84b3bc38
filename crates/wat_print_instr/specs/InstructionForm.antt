-- How instructions are written: a word, and an operand.
use Rattle.std.specs.Prelude.{ℕ, ℤ, Bool, true, false, ◌&&◌, ◌==◌, List, ◌∷◌, Option, Some, None}
use Rattle.wat_expr.specs.Prelude.{Token, Keyword, IndexModel, HeapTypeModel, RefTypeModel, ValTypeModel, BlockTypeModel, BrTableModel, CallIndirectModel, CastBranchModel, TryTableModel, ResumeModel, ResumeThrowModel, LaneAccessModel, MemArgModel, LaneArg, Ordering, I8x16Shuffle, V128Const, access_align, atomic_access_align, rmw_access_align, lane_access_align, op_word, op_row, op_of_row, Op, InstructionModel, Operand, nothing, block, one_index, two_indices, branches, call, chosen, access, ordered_index, ordered_indices, lane, heap, sized, reference, cast, integer, float, fence, vector, shuffled, caught, resumed, thrown}
use Rattle.wat_print.specs.Prelude.{Form, blank_form, index_form, spell_option, heap_form, ref_form}
use Rattle.wat_instr.specs.Operand.{label, lane_access}
use Rattle.wat_print_instr.specs.Access.{access_form, fence_form, ordered_form, atomic_form, lane_form, lane_access_form}
use Rattle.wat_print_instr.specs.Control.{block_form, call_form, end_label_form, select_form, branch_form, try_form, resume_form, throw_form}
use Rattle.wat_print_instr.specs.Numbers.{signed_form}
use Rattle.wat_print_instr.specs.Indices.{index_or_0_form, pair_form, init_form, copy_form, sized_form, br_table_form}
use Rattle.wat_print_instr.specs.Vectors.{never_form, vector_form, shuffle_form}
use Rattle.wat_mnemonics.specs.declared.op.Op.TheVariants as ops

-- ---- the value in an operand

abbrev pub found_nothing : Operand → Option (Unit {0})
found_nothing nothing = Some tt
found_nothing _ = None

abbrev pub found_block : Operand → Option BlockTypeModel
found_block (block x) = Some x
found_block _ = None

abbrev pub found_label : Operand → Option (Option (List ℕ))
found_label (label x) = Some x
found_label _ = None

abbrev pub found_one_index : Operand → Option IndexModel
found_one_index (one_index x) = Some x
found_one_index _ = None

abbrev pub found_two_indices : Operand → Option (IndexModel × IndexModel)
found_two_indices (two_indices x) = Some x
found_two_indices _ = None

abbrev pub found_branches : Operand → Option BrTableModel
found_branches (branches x) = Some x
found_branches _ = None

abbrev pub found_call : Operand → Option CallIndirectModel
found_call (call x) = Some x
found_call _ = None

abbrev pub found_chosen : Operand → Option (Option (List ValTypeModel))
found_chosen (chosen x) = Some x
found_chosen _ = None

abbrev pub found_access : Operand → Option MemArgModel
found_access (access x) = Some x
found_access _ = None

abbrev pub found_ordered_index : Operand → Option (Ordering × IndexModel)
found_ordered_index (ordered_index x) = Some x
found_ordered_index _ = None

abbrev pub found_ordered_indices : Operand → Option (Ordering × (IndexModel × IndexModel))
found_ordered_indices (ordered_indices x) = Some x
found_ordered_indices _ = None

abbrev pub found_lane_access : Operand → Option LaneAccessModel
found_lane_access (lane_access x) = Some x
found_lane_access _ = None

abbrev pub found_lane : Operand → Option LaneArg
found_lane (lane x) = Some x
found_lane _ = None

abbrev pub found_heap : Operand → Option HeapTypeModel
found_heap (heap x) = Some x
found_heap _ = None

abbrev pub found_sized : Operand → Option (IndexModel × ℕ)
found_sized (sized x) = Some x
found_sized _ = None

abbrev pub found_reference : Operand → Option RefTypeModel
found_reference (reference x) = Some x
found_reference _ = None

abbrev pub found_cast : Operand → Option CastBranchModel
found_cast (cast x) = Some x
found_cast _ = None

abbrev pub found_integer : Operand → Option ℤ
found_integer (integer x) = Some x
found_integer _ = None

abbrev pub found_float : Operand → Option ℕ
found_float (float x) = Some x
found_float _ = None

abbrev pub found_fence : Operand → Option (Option Ordering)
found_fence (fence x) = Some x
found_fence _ = None

abbrev pub found_vector : Operand → Option V128Const
found_vector (vector x) = Some x
found_vector _ = None

abbrev pub found_shuffled : Operand → Option I8x16Shuffle
found_shuffled (shuffled x) = Some x
found_shuffled _ = None

abbrev pub found_caught : Operand → Option TryTableModel
found_caught (caught x) = Some x
found_caught _ = None

abbrev pub found_resumed : Operand → Option ResumeModel
found_resumed (resumed x) = Some x
found_resumed _ = None

abbrev pub found_thrown : Operand → Option ResumeThrowModel
found_thrown (thrown x) = Some x
found_thrown _ = None

-- ---- how an operand is written

-- a value that passes the test
abbrev pub passes : {A : Type 0} → (A → Bool) → Option A → Bool
passes test (Some v) = test v
passes test None = false

-- an operand is written as the value that `from` finds in the operand
abbrev pub found_form : {A : Type 0} → (Operand → Option A) → Form A → Form Operand
found_form from p = record {
  spell = λ o. spell_option p.spell (from o);
  printable = λ o. passes p.printable (from o);
  ready = λ o. passes p.ready (from o);
  follows = p.follows;
  empty = p.empty;
  balanced = true;
  Fronts = p.Fronts;
}

-- the operand after the word of the instruction
abbrev pub operand_form : Op → Form Operand
operand_form (ops.Block op) = found_form found_block block_form
operand_form (ops.Label op) = found_form found_label end_label_form
operand_form (ops.Scalar op) = found_form found_nothing blank_form
operand_form (ops.Indexed op) = found_form found_one_index index_form
operand_form (ops.CallIndirect op) = found_form found_call call_form
operand_form (ops.Table op) = found_form found_one_index index_or_0_form
operand_form (ops.Access op) = found_form found_access (access_form (access_align op))
operand_form (ops.Memory op) = found_form found_one_index index_or_0_form
operand_form (ops.Struct op) = found_form found_two_indices pair_form
operand_form (ops.ArrayInit op) = found_form found_two_indices pair_form
operand_form (ops.AtomicAccess op) =
    found_form found_access (atomic_form (atomic_access_align op) false)
operand_form (ops.RmwAccess op) = found_form found_access (atomic_form (rmw_access_align op) true)
operand_form (ops.OrderedIndex op) = found_form found_ordered_index (ordered_form index_form)
operand_form (ops.OrderedTable op) = found_form found_ordered_index (ordered_form index_or_0_form)
operand_form (ops.OrderedStruct op) = found_form found_ordered_indices (ordered_form pair_form)
operand_form (ops.LaneAccess op) =
    found_form found_lane_access (lane_access_form (lane_access_align op))
operand_form (ops.Lane op) = found_form found_lane lane_form
operand_form (ops.Vector op) = found_form found_nothing blank_form
operand_form ops.br_table = found_form found_branches br_table_form
operand_form ops.select = found_form found_chosen select_form
operand_form ops.memory_init = found_form found_two_indices init_form
operand_form ops.memory_copy = found_form found_two_indices copy_form
operand_form ops.table_init = found_form found_two_indices init_form
operand_form ops.table_copy = found_form found_two_indices copy_form
operand_form ops.ref_null = found_form found_heap heap_form
operand_form ops.array_new_fixed = found_form found_sized sized_form
operand_form ops.array_new_data = found_form found_two_indices pair_form
operand_form ops.array_new_elem = found_form found_two_indices pair_form
operand_form ops.array_fill = found_form found_one_index index_form
operand_form ops.array_copy = found_form found_two_indices pair_form
operand_form ops.ref_test = found_form found_reference ref_form
operand_form ops.ref_cast = found_form found_reference ref_form
operand_form ops.br_on_cast = found_form found_cast branch_form
operand_form ops.br_on_cast_fail = found_form found_cast branch_form
operand_form ops.i32_const = found_form found_integer (signed_form 32)
operand_form ops.i64_const = found_form found_integer (signed_form 64)
operand_form ops.f32_const = found_form found_float never_form
operand_form ops.f64_const = found_form found_float never_form
operand_form ops.atomic_fence = found_form found_fence fence_form
operand_form ops.v128_const = found_form found_vector vector_form
operand_form ops.i8x16_shuffle = found_form found_shuffled shuffle_form
operand_form ops.try_table = found_form found_caught try_form
operand_form ops.cont_bind = found_form found_two_indices pair_form
operand_form ops.resume = found_form found_resumed resume_form
operand_form ops.resume_throw = found_form found_thrown throw_form
operand_form ops.resume_throw_ref = found_form found_resumed resume_form
operand_form ops.switch = found_form found_two_indices pair_form
operand_form ops.ref_cast_desc_eq = found_form found_reference ref_form
operand_form ops.br_on_cast_desc_eq = found_form found_cast branch_form
operand_form ops.br_on_cast_desc_eq_fail = found_form found_cast branch_form

-- ---- instructions

-- the word of the row, and the operand
abbrev pub spell_instruction : InstructionModel → List Token
spell_instruction i =
    Keyword (op_word (op_of_row i.row))
    ∷ (operand_form (op_of_row i.row)).spell i.operand

-- the row exists, and its instruction can have the operand
abbrev pub printable_instruction : InstructionModel → Bool
printable_instruction i =
    (op_row (op_of_row i.row) == i.row)
    && (operand_form (op_of_row i.row)).printable i.operand
