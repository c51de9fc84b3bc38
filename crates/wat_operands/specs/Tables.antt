-- Operands that name tables and memories.
use Rattle.std.specs.Prelude.{unwrap_or}
use Rattle.wat_types.specs.Prelude.{Production, seq, made, where_else, opt, IndexModel, number, index_view, index, at_index, at_second_index, Index}
use Rattle.wat_operands.specs.declared.tables.MemoryArgOf.{MemoryArgOf}
use Rattle.wat_operands.specs.declared.tables.MemoryCopyOf.{MemoryCopyOf}
use Rattle.wat_operands.specs.declared.tables.MemoryInitOf.{MemoryInitOf}
use Rattle.wat_operands.specs.declared.tables.TableArgOf.{TableArgOf}
use Rattle.wat_operands.specs.declared.tables.TableCopyOf.{TableCopyOf}
use Rattle.wat_operands.specs.declared.tables.TableInitOf.{TableInitOf}

-- ---- one index, or no index

-- idx?, default 0
unfoldable pub index_or_0 : Production IndexModel
index_or_0 = made (λ o. unwrap_or o (number 0)) (opt at_index index)

abbrev pub table_arg_view : TableArgOf Index → IndexModel
table_arg_view a = index_view a.dst

abbrev pub memory_arg_view : MemoryArgOf Index → IndexModel
memory_arg_view a = index_view a.mem

-- ---- two indices

-- idx idx
unfoldable pub index_pair : Production (IndexModel × IndexModel)
index_pair = seq index index

-- ---- a target and a segment

-- the table, and the element segment
abbrev pub table_init_view : TableInitOf Index → IndexModel × IndexModel
table_init_view i = (index_view i.table, index_view i.elem)

-- the memory, and the data segment
abbrev pub memory_init_view : MemoryInitOf Index → IndexModel × IndexModel
memory_init_view i = (index_view i.mem, index_view i.«data»)

-- target 0, and the segment
abbrev pub into_0 : IndexModel → IndexModel × IndexModel
into_0 segment = (number 0, segment)

-- idx (target) idx (segment) if the second token is an Id or Integer; else idx (segment), target 0
unfoldable pub init : Production (IndexModel × IndexModel)
init = where_else at_second_index index_pair (made into_0 index)

-- ---- a destination and a source

-- the destination, and the source
abbrev pub table_copy_view : TableCopyOf Index → IndexModel × IndexModel
table_copy_view c = (index_view c.dst, index_view c.src)

abbrev pub memory_copy_view : MemoryCopyOf Index → IndexModel × IndexModel
memory_copy_view c = (index_view c.dst, index_view c.src)

-- idx (destination) idx (source), or no tokens: 0 and 0
unfoldable pub copy : Production (IndexModel × IndexModel)
copy = made (λ o. unwrap_or o (number 0, number 0)) (opt at_index index_pair)
