-- Blocks, labels, and instructions with indices or a lane: words, rows.
use Rattle.std.specs.Prelude.{ℕ, List, codes}
use Rattle.wat_mnemonics.specs.declared.indexed.BlockOp.{BlockOp}
use Rattle.wat_mnemonics.specs.declared.indexed.LabelOp.{LabelOp}
use Rattle.wat_mnemonics.specs.declared.indexed.IndexedOp.{IndexedOp}
use Rattle.wat_mnemonics.specs.declared.indexed.CallIndirectOp.{CallIndirectOp}
use Rattle.wat_mnemonics.specs.declared.indexed.TableOp.{TableOp}
use Rattle.wat_mnemonics.specs.declared.indexed.MemoryOp.{MemoryOp}
use Rattle.wat_mnemonics.specs.declared.indexed.StructOp.{StructOp}
use Rattle.wat_mnemonics.specs.declared.indexed.ArrayInitOp.{ArrayInitOp}
use Rattle.wat_mnemonics.specs.declared.indexed.LaneOp.{LaneOp}
use Rattle.wat_mnemonics.specs.declared.indexed.BlockOp.TheVariants as block
use Rattle.wat_mnemonics.specs.declared.indexed.LabelOp.TheVariants as label
use Rattle.wat_mnemonics.specs.declared.indexed.IndexedOp.TheVariants as indexed
use Rattle.wat_mnemonics.specs.declared.indexed.CallIndirectOp.TheVariants as call_indirect
use Rattle.wat_mnemonics.specs.declared.indexed.TableOp.TheVariants as table
use Rattle.wat_mnemonics.specs.declared.indexed.MemoryOp.TheVariants as memory
use Rattle.wat_mnemonics.specs.declared.indexed.StructOp.TheVariants as struct
use Rattle.wat_mnemonics.specs.declared.indexed.ArrayInitOp.TheVariants as array_init
use Rattle.wat_mnemonics.specs.declared.indexed.LaneOp.TheVariants as lane

abbrev pub block_word : BlockOp → List ℕ
block_word block.block = codes "block"
block_word block.if_ = codes "if"
block_word block.loop_ = codes "loop"
block_word block.try_ = codes "try"

abbrev pub block_row : BlockOp → ℕ
block_row block.block = 0
block_row block.if_ = 1
block_row block.loop_ = 3
block_row block.try_ = 581

abbrev pub label_word : LabelOp → List ℕ
label_word label.else_ = codes "else"
label_word label.end = codes "end"

abbrev pub label_row : LabelOp → ℕ
label_row label.else_ = 2
label_row label.end = 4

abbrev pub indexed_word : IndexedOp → List ℕ
indexed_word indexed.br = codes "br"
indexed_word indexed.br_if = codes "br_if"
indexed_word indexed.call = codes "call"
indexed_word indexed.return_call = codes "return_call"
indexed_word indexed.call_ref = codes "call_ref"
indexed_word indexed.return_call_ref = codes "return_call_ref"
indexed_word indexed.local_get = codes "local.get"
indexed_word indexed.local_set = codes "local.set"
indexed_word indexed.local_tee = codes "local.tee"
indexed_word indexed.global_get = codes "global.get"
indexed_word indexed.global_set = codes "global.set"
indexed_word indexed.data_drop = codes "data.drop"
indexed_word indexed.elem_drop = codes "elem.drop"
indexed_word indexed.ref_func = codes "ref.func"
indexed_word indexed.br_on_null = codes "br_on_null"
indexed_word indexed.br_on_non_null = codes "br_on_non_null"
indexed_word indexed.struct_new = codes "struct.new"
indexed_word indexed.struct_new_default = codes "struct.new_default"
indexed_word indexed.array_new = codes "array.new"
indexed_word indexed.array_new_default = codes "array.new_default"
indexed_word indexed.array_get = codes "array.get"
indexed_word indexed.array_get_s = codes "array.get_s"
indexed_word indexed.array_get_u = codes "array.get_u"
indexed_word indexed.array_set = codes "array.set"
indexed_word indexed.throw = codes "throw"
indexed_word indexed.catch = codes "catch"
indexed_word indexed.rethrow = codes "rethrow"
indexed_word indexed.delegate = codes "delegate"
indexed_word indexed.cont_new = codes "cont.new"
indexed_word indexed.suspend = codes "suspend"
indexed_word indexed.struct_new_desc = codes "struct.new_desc"
indexed_word indexed.struct_new_default_desc = codes "struct.new_default_desc"
indexed_word indexed.ref_get_desc = codes "ref.get_desc"

abbrev pub indexed_row : IndexedOp → ℕ
indexed_row indexed.br = 7
indexed_row indexed.br_if = 8
indexed_row indexed.call = 11
indexed_row indexed.return_call = 13
indexed_row indexed.call_ref = 15
indexed_row indexed.return_call_ref = 16
indexed_row indexed.local_get = 19
indexed_row indexed.local_set = 20
indexed_row indexed.local_tee = 21
indexed_row indexed.global_get = 22
indexed_row indexed.global_set = 23
indexed_row indexed.data_drop = 55
indexed_row indexed.elem_drop = 56
indexed_row indexed.ref_func = 64
indexed_row indexed.br_on_null = 66
indexed_row indexed.br_on_non_null = 67
indexed_row indexed.struct_new = 69
indexed_row indexed.struct_new_default = 70
indexed_row indexed.array_new = 75
indexed_row indexed.array_new_default = 76
indexed_row indexed.array_get = 80
indexed_row indexed.array_get_s = 81
indexed_row indexed.array_get_u = 82
indexed_row indexed.array_set = 83
indexed_row indexed.throw = 580
indexed_row indexed.catch = 582
indexed_row indexed.rethrow = 583
indexed_row indexed.delegate = 584
indexed_row indexed.cont_new = 606
indexed_row indexed.suspend = 608
indexed_row indexed.struct_new_desc = 617
indexed_row indexed.struct_new_default_desc = 618
indexed_row indexed.ref_get_desc = 619

abbrev pub call_indirect_word : CallIndirectOp → List ℕ
call_indirect_word call_indirect.call_indirect = codes "call_indirect"
call_indirect_word call_indirect.return_call_indirect = codes "return_call_indirect"

abbrev pub call_indirect_row : CallIndirectOp → ℕ
call_indirect_row call_indirect.call_indirect = 12
call_indirect_row call_indirect.return_call_indirect = 14

abbrev pub table_word : TableOp → List ℕ
table_word table.table_get = codes "table.get"
table_word table.table_set = codes "table.set"
table_word table.table_fill = codes "table.fill"
table_word table.table_size = codes "table.size"
table_word table.table_grow = codes "table.grow"

abbrev pub table_row : TableOp → ℕ
table_row table.table_get = 24
table_row table.table_set = 25
table_row table.table_fill = 59
table_row table.table_size = 60
table_row table.table_grow = 61

abbrev pub memory_word : MemoryOp → List ℕ
memory_word memory.memory_size = codes "memory.size"
memory_word memory.memory_grow = codes "memory.grow"
memory_word memory.memory_fill = codes "memory.fill"
memory_word memory.memory_discard = codes "memory.discard"

abbrev pub memory_row : MemoryOp → ℕ
memory_row memory.memory_size = 49
memory_row memory.memory_grow = 50
memory_row memory.memory_fill = 53
memory_row memory.memory_discard = 54

abbrev pub struct_word : StructOp → List ℕ
struct_word struct.struct_get = codes "struct.get"
struct_word struct.struct_get_s = codes "struct.get_s"
struct_word struct.struct_get_u = codes "struct.get_u"
struct_word struct.struct_set = codes "struct.set"

abbrev pub struct_row : StructOp → ℕ
struct_row struct.struct_get = 71
struct_row struct.struct_get_s = 72
struct_row struct.struct_get_u = 73
struct_row struct.struct_set = 74

abbrev pub array_init_word : ArrayInitOp → List ℕ
array_init_word array_init.array_init_data = codes "array.init_data"
array_init_word array_init.array_init_elem = codes "array.init_elem"

abbrev pub array_init_row : ArrayInitOp → ℕ
array_init_row array_init.array_init_data = 87
array_init_row array_init.array_init_elem = 88

abbrev pub lane_word : LaneOp → List ℕ
lane_word lane.i8x16_extract_lane_s = codes "i8x16.extract_lane_s"
lane_word lane.i8x16_extract_lane_u = codes "i8x16.extract_lane_u"
lane_word lane.i8x16_replace_lane = codes "i8x16.replace_lane"
lane_word lane.i16x8_extract_lane_s = codes "i16x8.extract_lane_s"
lane_word lane.i16x8_extract_lane_u = codes "i16x8.extract_lane_u"
lane_word lane.i16x8_replace_lane = codes "i16x8.replace_lane"
lane_word lane.i32x4_extract_lane = codes "i32x4.extract_lane"
lane_word lane.i32x4_replace_lane = codes "i32x4.replace_lane"
lane_word lane.i64x2_extract_lane = codes "i64x2.extract_lane"
lane_word lane.i64x2_replace_lane = codes "i64x2.replace_lane"
lane_word lane.f32x4_extract_lane = codes "f32x4.extract_lane"
lane_word lane.f32x4_replace_lane = codes "f32x4.replace_lane"
lane_word lane.f64x2_extract_lane = codes "f64x2.extract_lane"
lane_word lane.f64x2_replace_lane = codes "f64x2.replace_lane"

abbrev pub lane_row : LaneOp → ℕ
lane_row lane.i8x16_extract_lane_s = 366
lane_row lane.i8x16_extract_lane_u = 367
lane_row lane.i8x16_replace_lane = 368
lane_row lane.i16x8_extract_lane_s = 369
lane_row lane.i16x8_extract_lane_u = 370
lane_row lane.i16x8_replace_lane = 371
lane_row lane.i32x4_extract_lane = 372
lane_row lane.i32x4_replace_lane = 373
lane_row lane.i64x2_extract_lane = 374
lane_row lane.i64x2_replace_lane = 375
lane_row lane.f32x4_extract_lane = 376
lane_row lane.f32x4_replace_lane = 377
lane_row lane.f64x2_extract_lane = 378
lane_row lane.f64x2_replace_lane = 379
