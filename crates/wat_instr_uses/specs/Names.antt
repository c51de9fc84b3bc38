-- The names that instructions use, and the index spaces of the names; apart from labels (Core
-- Specification, Text Format, "Contexts" and "Instructions").
use Rattle.std.specs.Prelude.{ℕ, List, [], ◌++◌, Option, Some, None, flat_map}
use Rattle.wat_instr.specs.Prelude.{IndexModel, Op, Operand, InstructionModel}
use Rattle.wat_tokens.specs.Index.{number, name}
use Rattle.wat_mnemonics.specs.TableIndex.{op_of_row}
use Rattle.wat_mnemonics.specs.declared.indexed.IndexedOp.{IndexedOp}
use Rattle.wat_mnemonics.specs.declared.indexed.ArrayInitOp.{ArrayInitOp}
use Rattle.wat_mnemonics.specs.declared.ordered.OrderedIndexOp.{OrderedIndexOp}
use Rattle.wat_scopes.specs.Spaces.{SpaceModel, NameModel, types, funcs, tables, memories, globals, tags, elems, datas, locals, fields_at, fields_of}
use Rattle.wat_type_uses.specs.Named.{by_index, by_two}
use Rattle.wat_type_uses.specs.Types.{heap_uses, ref_uses}
use Rattle.wat_operand_uses.specs.Operands.{access_uses, block_uses, call_uses, cast_uses, chosen_uses, handles_uses, try_uses}
use Rattle.wat_mnemonics.specs.declared.op.Op.TheVariants as ops
use Rattle.wat_mnemonics.specs.declared.indexed.IndexedOp.TheVariants as indexed
use Rattle.wat_mnemonics.specs.declared.indexed.ArrayInitOp.TheVariants as array_init
use Rattle.wat_mnemonics.specs.declared.ordered.OrderedIndexOp.TheVariants as ordered
use Rattle.wat_instr.specs.Operand as operands

-- ---- instructions with one index

-- The index space of the index, by the instruction; None for a label. The locals are those of the field
-- with the index k.
abbrev pub indexed_space : ℕ → IndexedOp → Option SpaceModel
indexed_space k indexed.br = None
indexed_space k indexed.br_if = None
indexed_space k indexed.call = Some funcs
indexed_space k indexed.return_call = Some funcs
indexed_space k indexed.call_ref = Some types
indexed_space k indexed.return_call_ref = Some types
indexed_space k indexed.local_get = Some (locals k)
indexed_space k indexed.local_set = Some (locals k)
indexed_space k indexed.local_tee = Some (locals k)
indexed_space k indexed.global_get = Some globals
indexed_space k indexed.global_set = Some globals
indexed_space k indexed.data_drop = Some datas
indexed_space k indexed.elem_drop = Some elems
indexed_space k indexed.ref_func = Some funcs
indexed_space k indexed.br_on_null = None
indexed_space k indexed.br_on_non_null = None
indexed_space k indexed.struct_new = Some types
indexed_space k indexed.struct_new_default = Some types
indexed_space k indexed.array_new = Some types
indexed_space k indexed.array_new_default = Some types
indexed_space k indexed.array_get = Some types
indexed_space k indexed.array_get_s = Some types
indexed_space k indexed.array_get_u = Some types
indexed_space k indexed.array_set = Some types
indexed_space k indexed.throw = Some tags
indexed_space k indexed.catch = Some tags
indexed_space k indexed.rethrow = None
indexed_space k indexed.delegate = None
indexed_space k indexed.cont_new = Some types
indexed_space k indexed.suspend = Some tags
indexed_space k indexed.struct_new_desc = Some types
indexed_space k indexed.struct_new_default_desc = Some types
indexed_space k indexed.ref_get_desc = Some types

-- the index space of an atomic access: globals, or types for an access to an array
abbrev pub ordered_space : OrderedIndexOp → SpaceModel
ordered_space ordered.global_atomic_get = globals
ordered_space ordered.global_atomic_set = globals
ordered_space ordered.global_atomic_rmw_add = globals
ordered_space ordered.global_atomic_rmw_sub = globals
ordered_space ordered.global_atomic_rmw_and = globals
ordered_space ordered.global_atomic_rmw_or = globals
ordered_space ordered.global_atomic_rmw_xor = globals
ordered_space ordered.global_atomic_rmw_xchg = globals
ordered_space ordered.global_atomic_rmw_cmpxchg = globals
ordered_space _ = types

-- the index space of an instruction whose operand is an index; None for other instructions
abbrev pub index_space : ℕ → Op → Option SpaceModel
index_space k (ops.Indexed op) = indexed_space k op
index_space k (ops.Table op) = Some tables
index_space k (ops.Memory op) = Some memories
index_space k (ops.OrderedIndex op) = Some (ordered_space op)
index_space k (ops.OrderedTable op) = Some tables
index_space k ops.array_fill = Some types
index_space k _ = None

-- the name of an index in a space; none for a label
abbrev pub in_space : Option SpaceModel → IndexModel → List NameModel
in_space None i = []
in_space (Some s) i = by_index s i

-- ---- instructions with two indices

-- the index space of the fields of the structure type with this index
abbrev pub field_space : IndexModel → SpaceModel
field_space (number n) = fields_at n
field_space (name x) = fields_of x

-- the index space of the segment of `array.init_data` or `array.init_elem`
abbrev pub segment_space : ArrayInitOp → SpaceModel
segment_space array_init.array_init_data = datas
segment_space array_init.array_init_elem = elems

-- the index spaces of two indices, by the instruction and the first index
abbrev pub two_spaces : Op → IndexModel → SpaceModel × SpaceModel
two_spaces (ops.Struct op) i = (types, field_space i)
two_spaces (ops.OrderedStruct op) i = (types, field_space i)
two_spaces (ops.ArrayInit op) i = (types, segment_space op)
two_spaces ops.memory_init i = (memories, datas)
two_spaces ops.memory_copy i = (memories, memories)
two_spaces ops.table_init i = (tables, elems)
two_spaces ops.table_copy i = (tables, tables)
two_spaces ops.array_new_data i = (types, datas)
two_spaces ops.array_new_elem i = (types, elems)
two_spaces ops.switch i = (types, tags)
-- `array.copy` and `cont.bind`
two_spaces _ i = (types, types)

-- the names of two indices, each in its space
abbrev pub in_two_spaces : SpaceModel × SpaceModel → IndexModel × IndexModel → List NameModel
in_two_spaces s p = by_two s.0 s.1 p

-- ---- instructions

-- the names of an instruction in the field with the index k, by its mnemonic and its operand
abbrev pub op_uses : ℕ → Op → Operand → List NameModel
op_uses k h (operands.block b) = block_uses b
op_uses k h (operands.one_index i) = in_space (index_space k h) i
op_uses k h (operands.two_indices p) = in_two_spaces (two_spaces h p.0) p
op_uses k h (operands.call c) = call_uses c
op_uses k h (operands.chosen ts) = chosen_uses ts
op_uses k h (operands.access m) = access_uses m
op_uses k h (operands.ordered_index o) = in_space (index_space k h) o.1
op_uses k h (operands.ordered_indices o) = in_two_spaces (two_spaces h o.1.0) o.1
op_uses k h (operands.lane_access l) = access_uses l.memarg
op_uses k h (operands.heap t) = heap_uses t
op_uses k h (operands.sized v) = by_index types v.0
op_uses k h (operands.reference t) = ref_uses t
op_uses k h (operands.cast c) = cast_uses c
op_uses k h (operands.caught t) = try_uses t
op_uses k h (operands.resumed r) = by_index types r.type_index ++ handles_uses r.table
op_uses k h (operands.thrown r) =
    by_two types tags (r.type_index, r.tag_index) ++ handles_uses r.table
-- no operand, a label, labels, a lane, a number, an ordering, a vector
op_uses k h _ = []

-- the names of an instruction
unfoldable pub instr_uses : ℕ → InstructionModel → List NameModel
instr_uses k i = op_uses k (op_of_row i.row) i.operand

-- the names of instructions, in order
abbrev pub instrs_uses : ℕ → List InstructionModel → List NameModel
instrs_uses k is = flat_map (instr_uses k) is
