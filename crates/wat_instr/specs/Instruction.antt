-- Instructions.
use Rattle.std.specs.Prelude.{ℕ, Bool, ◌||◌, ◌==◌, Option, Some, None}
use Rattle.wat_mnemonics.specs.Prelude.{op_row, mnemonic}
use Rattle.wat_operands.specs.Prelude.{Box, name_of, index_view, Production, made, heap_view, no_label, use_of, struct_access_view, cont_bind_view, switch_view, array_fill_view, array_copy_view, array_init_view, array_new_fixed_view, array_new_data_view, array_new_elem_view, br_table_view, lane_access_view, mem_arg_view, ordered_view, table_arg_view, memory_arg_view, table_init_view, memory_init_view, table_copy_view, memory_copy_view, BlockTypeModel, block_of, block_view, call_view, test_view, cast_view, cast_desc_eq_view, branch_view, branch_fail_view, branch_desc_eq_view, branch_desc_eq_fail_view, try_view, resume_view, resume_throw_view, resume_throw_ref_view, select_view, option_view, Index}
use Rattle.wat_mnemonics.specs.declared.op.Op.{Op}
use Rattle.wat_tokens.specs.Followed.{followed}
use Rattle.wat_instr.specs.Operand.{Operand, heapless_operand, operand}
use Rattle.wat_instr.specs.declared.instruction.InstructionOf.{InstructionOf}
use Rattle.wat_operands.specs.declared.block.BlockType.{BlockType}
use Rattle.wat_tokens.specs.declared.index.Id.{Id}
use Rattle.wat_operands.specs.declared.call.CallIndirect.{CallIndirect}
use Rattle.wat_operands.specs.declared.memory.MemArg.{MemArg}
use Rattle.wat_operands.specs.declared.select.SelectTypes.{SelectTypes}
use Rattle.wat_types.specs.declared.heap.HeapType.{HeapType}
use Rattle.wat_operands.specs.declared.casts.RefTest.{RefTest}
use Rattle.wat_operands.specs.declared.casts.RefCast.{RefCast}
use Rattle.wat_operands.specs.declared.casts.BrOnCast.{BrOnCast}
use Rattle.wat_operands.specs.declared.casts.BrOnCastFail.{BrOnCastFail}
use Rattle.wat_operands.specs.declared.catches.TryTable.{TryTable}
use Rattle.wat_operands.specs.declared.casts.RefCastDescEq.{RefCastDescEq}
use Rattle.wat_operands.specs.declared.casts.BrOnCastDescEq.{BrOnCastDescEq}
use Rattle.wat_operands.specs.declared.casts.BrOnCastDescEqFail.{BrOnCastDescEqFail}
use Rattle.wat_mnemonics.specs.declared.op.Op.TheVariants as ops
use Rattle.wat_mnemonics.specs.declared.indexed.BlockOp.TheVariants as block
use Rattle.wat_mnemonics.specs.declared.indexed.IndexedOp.TheVariants as indexed
use Rattle.wat_mnemonics.specs.declared.indexed.LabelOp.TheVariants as label
use Rattle.wat_instr.specs.Operand as operands
use Rattle.wat_instr.specs.declared.instruction.InstructionOf.TheVariants as code

-- an instruction that borrows from a text
abbrev pub Instruction : Type 0
Instruction =
    InstructionOf BlockType Id Index CallIndirect MemArg SelectTypes HeapType RefTest RefCast
    BrOnCast BrOnCastFail TryTable RefCastDescEq BrOnCastDescEq BrOnCastDescEqFail

-- ---- the view of contracts

-- the instruction without its operand
abbrev pub op_in : {BlockType Id Index CallIndirect MemArg SelectTypes HeapType RefTest RefCast
    BrOnCast BrOnCastFail TryTable RefCastDescEq BrOnCastDescEq BrOnCastDescEqFail : Type 0}
    → InstructionOf BlockType Id Index CallIndirect MemArg SelectTypes HeapType RefTest RefCast
    BrOnCast BrOnCastFail TryTable RefCastDescEq BrOnCastDescEq BrOnCastDescEqFail → Op
op_in (code.Block op x) = ops.Block op
op_in (code.Label op x) = ops.Label op
op_in (code.Scalar op) = ops.Scalar op
op_in (code.Indexed op x) = ops.Indexed op
op_in (code.CallIndirect op x) = ops.CallIndirect op
op_in (code.Table op x) = ops.Table op
op_in (code.Access op x) = ops.Access op
op_in (code.Memory op x) = ops.Memory op
op_in (code.Struct op x) = ops.Struct op
op_in (code.ArrayInit op x) = ops.ArrayInit op
op_in (code.AtomicAccess op x) = ops.AtomicAccess op
op_in (code.RmwAccess op x) = ops.RmwAccess op
op_in (code.OrderedIndex op x) = ops.OrderedIndex op
op_in (code.OrderedTable op x) = ops.OrderedTable op
op_in (code.OrderedStruct op x) = ops.OrderedStruct op
op_in (code.LaneAccess op x) = ops.LaneAccess op
op_in (code.Lane op x) = ops.Lane op
op_in (code.Vector op) = ops.Vector op
op_in (code.br_table x) = ops.br_table
op_in (code.select x) = ops.select
op_in (code.memory_init x) = ops.memory_init
op_in (code.memory_copy x) = ops.memory_copy
op_in (code.table_init x) = ops.table_init
op_in (code.table_copy x) = ops.table_copy
op_in (code.ref_null x) = ops.ref_null
op_in (code.array_new_fixed x) = ops.array_new_fixed
op_in (code.array_new_data x) = ops.array_new_data
op_in (code.array_new_elem x) = ops.array_new_elem
op_in (code.array_fill x) = ops.array_fill
op_in (code.array_copy x) = ops.array_copy
op_in (code.ref_test x) = ops.ref_test
op_in (code.ref_cast x) = ops.ref_cast
op_in (code.br_on_cast x) = ops.br_on_cast
op_in (code.br_on_cast_fail x) = ops.br_on_cast_fail
op_in (code.i32_const x) = ops.i32_const
op_in (code.i64_const x) = ops.i64_const
op_in (code.f32_const x) = ops.f32_const
op_in (code.f64_const x) = ops.f64_const
op_in (code.atomic_fence x) = ops.atomic_fence
op_in (code.v128_const x) = ops.v128_const
op_in (code.i8x16_shuffle x) = ops.i8x16_shuffle
op_in (code.try_table x) = ops.try_table
op_in (code.cont_bind x) = ops.cont_bind
op_in (code.resume x) = ops.resume
op_in (code.resume_throw x) = ops.resume_throw
op_in (code.resume_throw_ref x) = ops.resume_throw_ref
op_in (code.switch x) = ops.switch
op_in (code.ref_cast_desc_eq x) = ops.ref_cast_desc_eq
op_in (code.br_on_cast_desc_eq x) = ops.br_on_cast_desc_eq
op_in (code.br_on_cast_desc_eq_fail x) = ops.br_on_cast_desc_eq_fail

-- the block type without a label, name or type
abbrev pub no_block : BlockTypeModel
no_block = block_of no_label (use_of None None)

-- the block type of an optional box; None is the block type without a label, name or type
abbrev pub block_in : Option (Box BlockType) → BlockTypeModel
block_in (Some b) = block_view b.value
block_in None = no_block

-- the operand, without places
abbrev pub operand_in : Instruction → Operand
operand_in (code.Block op x) = operands.block (block_in x)
operand_in (code.Label op x) = operands.label (option_view name_of x)
operand_in (code.Scalar op) = operands.nothing
operand_in (code.Indexed op x) = operands.one_index (index_view x)
operand_in (code.CallIndirect op x) = operands.call (call_view x.value)
operand_in (code.Table op x) = operands.one_index (table_arg_view x)
operand_in (code.Access op x) = operands.access (mem_arg_view x)
operand_in (code.Memory op x) = operands.one_index (memory_arg_view x)
operand_in (code.Struct op x) = operands.two_indices (struct_access_view x)
operand_in (code.ArrayInit op x) = operands.two_indices (array_init_view x)
operand_in (code.AtomicAccess op x) = operands.access (mem_arg_view x)
operand_in (code.RmwAccess op x) = operands.access (mem_arg_view x)
operand_in (code.OrderedIndex op x) = operands.ordered_index (ordered_view index_view x)
operand_in (code.OrderedTable op x) = operands.ordered_index (ordered_view table_arg_view x)
operand_in (code.OrderedStruct op x) = operands.ordered_indices (ordered_view struct_access_view x)
operand_in (code.LaneAccess op x) = operands.lane_access (lane_access_view x)
operand_in (code.Lane op x) = operands.lane x
operand_in (code.Vector op) = operands.nothing
operand_in (code.br_table x) = operands.branches (br_table_view x)
operand_in (code.select x) = operands.chosen (select_view x)
operand_in (code.memory_init x) = operands.two_indices (memory_init_view x)
operand_in (code.memory_copy x) = operands.two_indices (memory_copy_view x)
operand_in (code.table_init x) = operands.two_indices (table_init_view x)
operand_in (code.table_copy x) = operands.two_indices (table_copy_view x)
operand_in (code.ref_null x) = operands.heap (heap_view x)
operand_in (code.array_new_fixed x) = operands.sized (array_new_fixed_view x)
operand_in (code.array_new_data x) = operands.two_indices (array_new_data_view x)
operand_in (code.array_new_elem x) = operands.two_indices (array_new_elem_view x)
operand_in (code.array_fill x) = operands.one_index (array_fill_view x)
operand_in (code.array_copy x) = operands.two_indices (array_copy_view x)
operand_in (code.ref_test x) = operands.reference (test_view x)
operand_in (code.ref_cast x) = operands.reference (cast_view x)
operand_in (code.br_on_cast x) = operands.cast (branch_view x.value)
operand_in (code.br_on_cast_fail x) = operands.cast (branch_fail_view x.value)
operand_in (code.i32_const x) = operands.integer x
operand_in (code.i64_const x) = operands.integer x
operand_in (code.f32_const x) = operands.float (x.bits)
operand_in (code.f64_const x) = operands.float (x.bits)
operand_in (code.atomic_fence x) = operands.fence (option_view (λ o. o) x)
operand_in (code.v128_const x) = operands.vector x
operand_in (code.i8x16_shuffle x) = operands.shuffled x
operand_in (code.try_table x) = operands.caught (try_view x)
operand_in (code.cont_bind x) = operands.two_indices (cont_bind_view x)
operand_in (code.resume x) = operands.resumed (resume_view x)
operand_in (code.resume_throw x) = operands.thrown (resume_throw_view x.value)
operand_in (code.resume_throw_ref x) = operands.resumed (resume_throw_ref_view x)
operand_in (code.switch x) = operands.two_indices (switch_view x)
operand_in (code.ref_cast_desc_eq x) = operands.reference (cast_desc_eq_view x)
operand_in (code.br_on_cast_desc_eq x) = operands.cast (branch_desc_eq_view x.value)
operand_in (code.br_on_cast_desc_eq_fail x) = operands.cast (branch_desc_eq_fail_view x.value)

-- an instruction, without places: the number of its row, and its operand
pub record InstructionModel : Type 0 where
  pub row : ℕ
  pub operand : Operand

abbrev pub instr_of : Op → Operand → InstructionModel
instr_of h o = record { row = op_row h; operand = o }

abbrev pub instruction_view : Instruction → InstructionModel
instruction_view i = instr_of (op_in i) (operand_in i)

-- the operand owns no memory
abbrev pub heapless_instruction : InstructionModel → Bool
heapless_instruction i = heapless_operand i.operand

-- ---- the grammar

-- an instruction, after its mnemonic
abbrev pub behind_word : Op → Production InstructionModel
behind_word h = made (instr_of h) (operand h)

-- the mnemonic, then the operand
unfoldable pub instruction : Production InstructionModel
instruction = followed mnemonic behind_word

-- ---- instructions that expressions distinguish

-- `block`, `loop` and `try_table`
abbrev pub is_block : ℕ → Bool
is_block n =
    (n == op_row (ops.Block block.block) || n == op_row (ops.Block block.loop_))
    || n == op_row ops.try_table

-- `if`
abbrev pub is_if : ℕ → Bool
is_if n = n == op_row (ops.Block block.if_)

-- `br_if`
abbrev pub is_br_if : ℕ → Bool
is_br_if n = n == op_row (ops.Indexed indexed.br_if)

-- `else` without a label
abbrev pub else_instr : InstructionModel
else_instr = instr_of (ops.Label label.else_) (operands.label None)

-- `end` without a label
abbrev pub end_instr : InstructionModel
end_instr = instr_of (ops.Label label.end) (operands.label None)
