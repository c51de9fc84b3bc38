-- Operands: the tokens after the mnemonic of an instruction.
use Rattle.std.specs.Prelude.{ℕ, ℤ, Bool, true, false, not, ◌||◌, List, Option, is_some}
use Rattle.wat_operands.specs.Prelude.{Production, made, opt, IndexModel, identifier, index, at_id, signed, none, HeapTypeModel, heap_type, labelled, RefTypeModel, ref_type, ValTypeModel, array_of_length, BrTableModel, heapless_br_table, br_table, LaneAccessModel, lane_arg, MemArgModel, mem_arg, atomic_mem_arg, ordering, at_ordering, ordered, index_or_0, index_pair, init, copy, v128_const, shuffle, BlockTypeModel, block_type, CallIndirectModel, call_indirect, CastBranchModel, cast_branch, TryTableModel, try_table, ResumeModel, resume, ResumeThrowModel, resume_throw, select_types, blank}
use Rattle.wat_operands.specs.Handlers.{heapless_resume}
use Rattle.wat_operands.specs.Select.{heapless_select}
use Rattle.wat_operands.specs.declared.lanes.LaneArg.{LaneArg}
use Rattle.wat_operands.specs.declared.ordering.Ordering.{Ordering}
use Rattle.wat_operands.specs.declared.vector.I8x16Shuffle.{I8x16Shuffle}
use Rattle.wat_operands.specs.declared.vector.V128Const.{V128Const}
use Rattle.wat_mnemonics.specs.Access.{access_align, atomic_access_align, rmw_access_align, lane_access_align}
use Rattle.wat_mnemonics.specs.declared.op.Op.{Op}
use Rattle.wat_operands.specs.Lanes as lanes
use Rattle.wat_mnemonics.specs.declared.op.Op.TheVariants as ops

-- an operand without places; boxes are seen as their contents, and vectors as their items
pub data Operand : Type 0 where
  -- no operand
  nothing : Operand
  -- the block type of a block
  block : BlockTypeModel → Operand
  -- the optional label of `else` and `end`
  label : Option (List ℕ) → Operand
  -- an index, also of a table or a memory
  one_index : IndexModel → Operand
  -- two indices
  two_indices : IndexModel × IndexModel → Operand
  -- the labels of a `br_table`
  branches : BrTableModel → Operand
  -- the operand of an indirect call
  call : CallIndirectModel → Operand
  -- the types of a `select`
  chosen : Option (List ValTypeModel) → Operand
  -- the operand of a memory access
  access : MemArgModel → Operand
  -- the ordering and the index of an atomic access
  ordered_index : Ordering × IndexModel → Operand
  -- the ordering and the two indices of an atomic access
  ordered_indices : Ordering × (IndexModel × IndexModel) → Operand
  -- the operand of an access to one lane
  lane_access : LaneAccessModel → Operand
  -- a lane
  lane : LaneArg → Operand
  -- a heap type
  heap : HeapTypeModel → Operand
  -- a type and a length
  sized : IndexModel × ℕ → Operand
  -- a reference type
  reference : RefTypeModel → Operand
  -- the operand of a branch on a cast
  cast : CastBranchModel → Operand
  -- an integer
  integer : ℤ → Operand
  -- a floating-point number, as its bits
  float : ℕ → Operand
  -- the optional ordering of a fence
  fence : Option Ordering → Operand
  -- a vector
  vector : V128Const → Operand
  -- the lanes of a shuffle
  shuffled : I8x16Shuffle → Operand
  -- the operand of a `try_table`
  caught : TryTableModel → Operand
  -- a type and handlers
  resumed : ResumeModel → Operand
  -- a type, a tag and handlers
  thrown : ResumeThrowModel → Operand

-- the block has a label, a name or a type
abbrev pub says_something : BlockTypeModel → Bool
says_something b = labelled b.label || (is_some b.ty.index || is_some b.ty.inline)

-- The operand owns no memory: no box, and no vector with items. A block without a label, name or
-- type needs no box.
abbrev pub heapless_operand : Operand → Bool
heapless_operand (block x) = not (says_something x)
heapless_operand (branches x) = heapless_br_table x
heapless_operand (call x) = false
heapless_operand (chosen x) = heapless_select x
heapless_operand (cast x) = false
heapless_operand (caught x) = false
heapless_operand (resumed x) = heapless_resume x
heapless_operand (thrown x) = false
heapless_operand _ = true

-- the production of the operand of an instruction, as 50 cases
unfoldable pub operand : Op → Production Operand
operand (ops.Block op) = made block block_type
operand (ops.Label op) = made label (opt at_id identifier)
operand (ops.Scalar op) = blank nothing
operand (ops.Indexed op) = made one_index index
operand (ops.CallIndirect op) = made call call_indirect
operand (ops.Table op) = made one_index index_or_0
operand (ops.Access op) = made access (mem_arg (access_align op))
operand (ops.Memory op) = made one_index index_or_0
operand (ops.Struct op) = made two_indices index_pair
operand (ops.ArrayInit op) = made two_indices index_pair
operand (ops.AtomicAccess op) = made access (atomic_mem_arg (atomic_access_align op) false)
operand (ops.RmwAccess op) = made access (atomic_mem_arg (rmw_access_align op) true)
operand (ops.OrderedIndex op) = made ordered_index (ordered index)
operand (ops.OrderedTable op) = made ordered_index (ordered index_or_0)
operand (ops.OrderedStruct op) = made ordered_indices (ordered index_pair)
operand (ops.LaneAccess op) = made lane_access (lanes.lane_access (lane_access_align op))
operand (ops.Lane op) = made lane lane_arg
operand (ops.Vector op) = blank nothing
operand ops.br_table = made branches br_table
operand ops.select = made chosen select_types
operand ops.memory_init = made two_indices init
operand ops.memory_copy = made two_indices copy
operand ops.table_init = made two_indices init
operand ops.table_copy = made two_indices copy
operand ops.ref_null = made heap heap_type
operand ops.array_new_fixed = made sized array_of_length
operand ops.array_new_data = made two_indices index_pair
operand ops.array_new_elem = made two_indices index_pair
operand ops.array_fill = made one_index index
operand ops.array_copy = made two_indices index_pair
operand ops.ref_test = made reference ref_type
operand ops.ref_cast = made reference ref_type
operand ops.br_on_cast = made cast cast_branch
operand ops.br_on_cast_fail = made cast cast_branch
operand ops.i32_const = made integer (signed 32)
operand ops.i64_const = made integer (signed 64)
operand ops.f32_const = made float none
operand ops.f64_const = made float none
operand ops.atomic_fence = made fence (opt at_ordering ordering)
operand ops.v128_const = made vector v128_const
operand ops.i8x16_shuffle = made shuffled shuffle
operand ops.try_table = made caught try_table
operand ops.cont_bind = made two_indices index_pair
operand ops.resume = made resumed resume
operand ops.resume_throw = made thrown resume_throw
operand ops.resume_throw_ref = made resumed resume
operand ops.switch = made two_indices index_pair
operand ops.ref_cast_desc_eq = made reference ref_type
operand ops.br_on_cast_desc_eq = made cast cast_branch
operand ops.br_on_cast_desc_eq_fail = made cast cast_branch
