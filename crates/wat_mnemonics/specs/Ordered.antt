-- Instructions with an ordering: words, rows.
use Rattle.std.specs.Prelude.{ℕ, List, codes}
use Rattle.wat_mnemonics.specs.declared.ordered.OrderedIndexOp.{OrderedIndexOp}
use Rattle.wat_mnemonics.specs.declared.ordered.OrderedTableOp.{OrderedTableOp}
use Rattle.wat_mnemonics.specs.declared.ordered.OrderedStructOp.{OrderedStructOp}
use Rattle.wat_mnemonics.specs.declared.ordered.OrderedIndexOp.TheVariants as ordered_index
use Rattle.wat_mnemonics.specs.declared.ordered.OrderedTableOp.TheVariants as ordered_table
use Rattle.wat_mnemonics.specs.declared.ordered.OrderedStructOp.TheVariants as ordered_struct

abbrev pub ordered_index_word : OrderedIndexOp → List ℕ
ordered_index_word ordered_index.global_atomic_get = codes "global.atomic.get"
ordered_index_word ordered_index.global_atomic_set = codes "global.atomic.set"
ordered_index_word ordered_index.global_atomic_rmw_add = codes "global.atomic.rmw.add"
ordered_index_word ordered_index.global_atomic_rmw_sub = codes "global.atomic.rmw.sub"
ordered_index_word ordered_index.global_atomic_rmw_and = codes "global.atomic.rmw.and"
ordered_index_word ordered_index.global_atomic_rmw_or = codes "global.atomic.rmw.or"
ordered_index_word ordered_index.global_atomic_rmw_xor = codes "global.atomic.rmw.xor"
ordered_index_word ordered_index.global_atomic_rmw_xchg = codes "global.atomic.rmw.xchg"
ordered_index_word ordered_index.global_atomic_rmw_cmpxchg = codes "global.atomic.rmw.cmpxchg"
ordered_index_word ordered_index.array_atomic_get = codes "array.atomic.get"
ordered_index_word ordered_index.array_atomic_get_s = codes "array.atomic.get_s"
ordered_index_word ordered_index.array_atomic_get_u = codes "array.atomic.get_u"
ordered_index_word ordered_index.array_atomic_set = codes "array.atomic.set"
ordered_index_word ordered_index.array_atomic_rmw_add = codes "array.atomic.rmw.add"
ordered_index_word ordered_index.array_atomic_rmw_sub = codes "array.atomic.rmw.sub"
ordered_index_word ordered_index.array_atomic_rmw_and = codes "array.atomic.rmw.and"
ordered_index_word ordered_index.array_atomic_rmw_or = codes "array.atomic.rmw.or"
ordered_index_word ordered_index.array_atomic_rmw_xor = codes "array.atomic.rmw.xor"
ordered_index_word ordered_index.array_atomic_rmw_xchg = codes "array.atomic.rmw.xchg"
ordered_index_word ordered_index.array_atomic_rmw_cmpxchg = codes "array.atomic.rmw.cmpxchg"

abbrev pub ordered_index_row : OrderedIndexOp → ℕ
ordered_index_row ordered_index.global_atomic_get = 306
ordered_index_row ordered_index.global_atomic_set = 307
ordered_index_row ordered_index.global_atomic_rmw_add = 308
ordered_index_row ordered_index.global_atomic_rmw_sub = 309
ordered_index_row ordered_index.global_atomic_rmw_and = 310
ordered_index_row ordered_index.global_atomic_rmw_or = 311
ordered_index_row ordered_index.global_atomic_rmw_xor = 312
ordered_index_row ordered_index.global_atomic_rmw_xchg = 313
ordered_index_row ordered_index.global_atomic_rmw_cmpxchg = 314
ordered_index_row ordered_index.array_atomic_get = 330
ordered_index_row ordered_index.array_atomic_get_s = 331
ordered_index_row ordered_index.array_atomic_get_u = 332
ordered_index_row ordered_index.array_atomic_set = 333
ordered_index_row ordered_index.array_atomic_rmw_add = 334
ordered_index_row ordered_index.array_atomic_rmw_sub = 335
ordered_index_row ordered_index.array_atomic_rmw_and = 336
ordered_index_row ordered_index.array_atomic_rmw_or = 337
ordered_index_row ordered_index.array_atomic_rmw_xor = 338
ordered_index_row ordered_index.array_atomic_rmw_xchg = 339
ordered_index_row ordered_index.array_atomic_rmw_cmpxchg = 340

abbrev pub ordered_table_word : OrderedTableOp → List ℕ
ordered_table_word ordered_table.table_atomic_get = codes "table.atomic.get"
ordered_table_word ordered_table.table_atomic_set = codes "table.atomic.set"
ordered_table_word ordered_table.table_atomic_rmw_xchg = codes "table.atomic.rmw.xchg"
ordered_table_word ordered_table.table_atomic_rmw_cmpxchg = codes "table.atomic.rmw.cmpxchg"

abbrev pub ordered_table_row : OrderedTableOp → ℕ
ordered_table_row ordered_table.table_atomic_get = 315
ordered_table_row ordered_table.table_atomic_set = 316
ordered_table_row ordered_table.table_atomic_rmw_xchg = 317
ordered_table_row ordered_table.table_atomic_rmw_cmpxchg = 318

abbrev pub ordered_struct_word : OrderedStructOp → List ℕ
ordered_struct_word ordered_struct.struct_atomic_get = codes "struct.atomic.get"
ordered_struct_word ordered_struct.struct_atomic_get_s = codes "struct.atomic.get_s"
ordered_struct_word ordered_struct.struct_atomic_get_u = codes "struct.atomic.get_u"
ordered_struct_word ordered_struct.struct_atomic_set = codes "struct.atomic.set"
ordered_struct_word ordered_struct.struct_atomic_rmw_add = codes "struct.atomic.rmw.add"
ordered_struct_word ordered_struct.struct_atomic_rmw_sub = codes "struct.atomic.rmw.sub"
ordered_struct_word ordered_struct.struct_atomic_rmw_and = codes "struct.atomic.rmw.and"
ordered_struct_word ordered_struct.struct_atomic_rmw_or = codes "struct.atomic.rmw.or"
ordered_struct_word ordered_struct.struct_atomic_rmw_xor = codes "struct.atomic.rmw.xor"
ordered_struct_word ordered_struct.struct_atomic_rmw_xchg = codes "struct.atomic.rmw.xchg"
ordered_struct_word ordered_struct.struct_atomic_rmw_cmpxchg = codes "struct.atomic.rmw.cmpxchg"

abbrev pub ordered_struct_row : OrderedStructOp → ℕ
ordered_struct_row ordered_struct.struct_atomic_get = 319
ordered_struct_row ordered_struct.struct_atomic_get_s = 320
ordered_struct_row ordered_struct.struct_atomic_get_u = 321
ordered_struct_row ordered_struct.struct_atomic_set = 322
ordered_struct_row ordered_struct.struct_atomic_rmw_add = 323
ordered_struct_row ordered_struct.struct_atomic_rmw_sub = 324
ordered_struct_row ordered_struct.struct_atomic_rmw_and = 325
ordered_struct_row ordered_struct.struct_atomic_rmw_or = 326
ordered_struct_row ordered_struct.struct_atomic_rmw_xor = 327
ordered_struct_row ordered_struct.struct_atomic_rmw_xchg = 328
ordered_struct_row ordered_struct.struct_atomic_rmw_cmpxchg = 329
