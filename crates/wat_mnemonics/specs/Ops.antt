-- Instructions without their operands: their words, rows and opcodes.
use Rattle.std.specs.Prelude.{ℕ, List, codes}
use Rattle.wat_mnemonics.specs.Access.{access_word, access_row, atomic_access_word, atomic_access_row, rmw_access_word, rmw_access_row, lane_access_word, lane_access_row}
use Rattle.wat_mnemonics.specs.Indexed.{block_word, block_row, label_word, label_row, indexed_word, indexed_row, call_indirect_word, call_indirect_row, table_word, table_row, memory_word, memory_row, struct_word, struct_row, array_init_word, array_init_row, lane_word, lane_row}
use Rattle.wat_mnemonics.specs.Ordered.{ordered_index_word, ordered_index_row, ordered_table_word, ordered_table_row, ordered_struct_word, ordered_struct_row}
use Rattle.wat_mnemonics.specs.Scalar.{scalar_word, scalar_row, scalar_opcode}
use Rattle.wat_mnemonics.specs.Vector.{vector_word, vector_row, vector_opcode}
use Rattle.wat_mnemonics.specs.declared.op.Op.{Op}
use Rattle.wat_mnemonics.specs.declared.opcode.Opcode.{Opcode}
use Rattle.wat_mnemonics.specs.declared.op.Op.TheVariants as h
use Rattle.wat_mnemonics.specs.declared.opcode.Opcode.TheVariants as o

-- the word that an instruction begins with
abbrev pub op_word : Op → List ℕ
op_word (h.Block x) = block_word x
op_word (h.Label x) = label_word x
op_word (h.Scalar x) = scalar_word x
op_word (h.Indexed x) = indexed_word x
op_word (h.CallIndirect x) = call_indirect_word x
op_word (h.Table x) = table_word x
op_word (h.Access x) = access_word x
op_word (h.Memory x) = memory_word x
op_word (h.Struct x) = struct_word x
op_word (h.ArrayInit x) = array_init_word x
op_word (h.AtomicAccess x) = atomic_access_word x
op_word (h.RmwAccess x) = rmw_access_word x
op_word (h.OrderedIndex x) = ordered_index_word x
op_word (h.OrderedTable x) = ordered_table_word x
op_word (h.OrderedStruct x) = ordered_struct_word x
op_word (h.LaneAccess x) = lane_access_word x
op_word (h.Lane x) = lane_word x
op_word (h.Vector x) = vector_word x
op_word h.br_table = codes "br_table"
op_word h.select = codes "select"
op_word h.memory_init = codes "memory.init"
op_word h.memory_copy = codes "memory.copy"
op_word h.table_init = codes "table.init"
op_word h.table_copy = codes "table.copy"
op_word h.ref_null = codes "ref.null"
op_word h.array_new_fixed = codes "array.new_fixed"
op_word h.array_new_data = codes "array.new_data"
op_word h.array_new_elem = codes "array.new_elem"
op_word h.array_fill = codes "array.fill"
op_word h.array_copy = codes "array.copy"
op_word h.ref_test = codes "ref.test"
op_word h.ref_cast = codes "ref.cast"
op_word h.br_on_cast = codes "br_on_cast"
op_word h.br_on_cast_fail = codes "br_on_cast_fail"
op_word h.i32_const = codes "i32.const"
op_word h.i64_const = codes "i64.const"
op_word h.f32_const = codes "f32.const"
op_word h.f64_const = codes "f64.const"
op_word h.atomic_fence = codes "atomic.fence"
op_word h.v128_const = codes "v128.const"
op_word h.i8x16_shuffle = codes "i8x16.shuffle"
op_word h.try_table = codes "try_table"
op_word h.cont_bind = codes "cont.bind"
op_word h.resume = codes "resume"
op_word h.resume_throw = codes "resume_throw"
op_word h.resume_throw_ref = codes "resume_throw_ref"
op_word h.switch = codes "switch"
op_word h.ref_cast_desc_eq = codes "ref.cast_desc_eq"
op_word h.br_on_cast_desc_eq = codes "br_on_cast_desc_eq"
op_word h.br_on_cast_desc_eq_fail = codes "br_on_cast_desc_eq_fail"

-- the number of the instruction's row in the table
abbrev pub op_row : Op → ℕ
op_row (h.Block x) = block_row x
op_row (h.Label x) = label_row x
op_row (h.Scalar x) = scalar_row x
op_row (h.Indexed x) = indexed_row x
op_row (h.CallIndirect x) = call_indirect_row x
op_row (h.Table x) = table_row x
op_row (h.Access x) = access_row x
op_row (h.Memory x) = memory_row x
op_row (h.Struct x) = struct_row x
op_row (h.ArrayInit x) = array_init_row x
op_row (h.AtomicAccess x) = atomic_access_row x
op_row (h.RmwAccess x) = rmw_access_row x
op_row (h.OrderedIndex x) = ordered_index_row x
op_row (h.OrderedTable x) = ordered_table_row x
op_row (h.OrderedStruct x) = ordered_struct_row x
op_row (h.LaneAccess x) = lane_access_row x
op_row (h.Lane x) = lane_row x
op_row (h.Vector x) = vector_row x
op_row h.br_table = 9
op_row h.select = 18
op_row h.memory_init = 51
op_row h.memory_copy = 52
op_row h.table_init = 57
op_row h.table_copy = 58
op_row h.ref_null = 62
op_row h.array_new_fixed = 77
op_row h.array_new_data = 78
op_row h.array_new_elem = 79
op_row h.array_fill = 85
op_row h.array_copy = 86
op_row h.ref_test = 92
op_row h.ref_cast = 93
op_row h.br_on_cast = 94
op_row h.br_on_cast_fail = 95
op_row h.i32_const = 98
op_row h.i64_const = 99
op_row h.f32_const = 100
op_row h.f64_const = 101
op_row h.atomic_fence = 241
op_row h.v128_const = 364
op_row h.i8x16_shuffle = 365
op_row h.try_table = 579
op_row h.cont_bind = 607
op_row h.resume = 609
op_row h.resume_throw = 610
op_row h.resume_throw_ref = 611
op_row h.switch = 612
op_row h.ref_cast_desc_eq = 620
op_row h.br_on_cast_desc_eq = 621
op_row h.br_on_cast_desc_eq_fail = 622

-- the instruction's opcode in a binary module
abbrev pub op_opcode : Op → Opcode
op_opcode (h.Scalar x) = scalar_opcode x
op_opcode (h.Vector x) = vector_opcode x
op_opcode _ = o.Absent
