-- Laws: the index of each instruction in the table, by its row.
use Rattle.std.proofs.Common.{nat_lt, true, ⊎_elim, ◌≡◌, ℕ, ◌<◌, [], length, get_or, refl, sym, ◌∙◌, ap, arith, IsTrue, lit<, subst}
use Rattle.wat_tokens.specs.Laws.Prelude.{agree_below_at, ltb-true, cases_lt, get_or-map, get_or_past}
use Rattle.wat_mnemonics.specs.Ops.{op_word, op_row}
use Rattle.wat_mnemonics.specs.Order.{rises, words, first}
use Rattle.wat_mnemonics.specs.declared.op.Op.{Op}
use Rattle.wat_mnemonics.specs.Table.{all_ops, op_count}
use Rattle.wat_mnemonics.specs.TableIndex.{table_index, index_of_row}
use Rattle.wat_mnemonics.specs.Laws.Order.{same_index}
use Rattle.wat_mnemonics.specs.declared.op.Op.TheVariants as h
use Rattle.wat_mnemonics.specs.declared.indexed.BlockOp.TheVariants as block
use Rattle.wat_mnemonics.specs.declared.indexed.LabelOp.TheVariants as label
use Rattle.wat_mnemonics.specs.declared.scalar.ScalarOp.TheVariants as scalar
use Rattle.wat_mnemonics.specs.declared.indexed.IndexedOp.TheVariants as indexed
use Rattle.wat_mnemonics.specs.declared.indexed.CallIndirectOp.TheVariants as call_indirect
use Rattle.wat_mnemonics.specs.declared.indexed.TableOp.TheVariants as table
use Rattle.wat_mnemonics.specs.declared.access.AccessOp.TheVariants as access
use Rattle.wat_mnemonics.specs.declared.indexed.MemoryOp.TheVariants as memory
use Rattle.wat_mnemonics.specs.declared.indexed.StructOp.TheVariants as struct
use Rattle.wat_mnemonics.specs.declared.indexed.ArrayInitOp.TheVariants as array_init
use Rattle.wat_mnemonics.specs.declared.access.AtomicAccessOp.TheVariants as atomic_access
use Rattle.wat_mnemonics.specs.declared.access.RmwAccessOp.TheVariants as rmw_access
use Rattle.wat_mnemonics.specs.declared.ordered.OrderedIndexOp.TheVariants as ordered_index
use Rattle.wat_mnemonics.specs.declared.ordered.OrderedTableOp.TheVariants as ordered_table
use Rattle.wat_mnemonics.specs.declared.ordered.OrderedStructOp.TheVariants as ordered_struct
use Rattle.wat_mnemonics.specs.declared.access.LaneAccessOp.TheVariants as lane_access
use Rattle.wat_mnemonics.specs.declared.indexed.LaneOp.TheVariants as lane
use Rattle.wat_mnemonics.specs.declared.vector.VectorOp.TheVariants as vector

-- the words are in strictly ascending order
pub words_rise : IsTrue (rises words)
words_rise = refl

pub words_length : length words ≡ op_count
words_length = refl

pub table_length : length all_ops ≡ op_count
table_length = refl

-- the instruction is at its index
abbrev IsThere : Op → Type 0
IsThere x = get_or all_ops (table_index x) first ≡ x

-- each instruction is at its index
pub there : (x : Op) → IsThere x
there (h.Block x) = elim x as (λ y. IsThere (h.Block y)) [ block.block ↦ refl | _ ↦ refl ]
there (h.Label x) = elim x as (λ y. IsThere (h.Label y)) [ label.else_ ↦ refl | _ ↦ refl ]
there (h.Scalar x) = elim x as (λ y. IsThere (h.Scalar y)) [ scalar.unreachable ↦ refl | _ ↦ refl ]
there (h.Indexed x) = elim x as (λ y. IsThere (h.Indexed y)) [ indexed.br ↦ refl | _ ↦ refl ]
there (h.CallIndirect x) =
    elim x as (λ y. IsThere (h.CallIndirect y)) [ call_indirect.call_indirect ↦ refl | _ ↦ refl ]
there (h.Table x) = elim x as (λ y. IsThere (h.Table y)) [ table.table_get ↦ refl | _ ↦ refl ]
there (h.Access x) = elim x as (λ y. IsThere (h.Access y)) [ access.i32_load ↦ refl | _ ↦ refl ]
there (h.Memory x) = elim x as (λ y. IsThere (h.Memory y)) [ memory.memory_size ↦ refl | _ ↦ refl ]
there (h.Struct x) = elim x as (λ y. IsThere (h.Struct y)) [ struct.struct_get ↦ refl | _ ↦ refl ]
there (h.ArrayInit x) =
    elim x as (λ y. IsThere (h.ArrayInit y)) [ array_init.array_init_data ↦ refl | _ ↦ refl ]
there (h.AtomicAccess x) =
    elim x as (λ y. IsThere (h.AtomicAccess y)) [ atomic_access.i32_atomic_load ↦ refl | _ ↦ refl ]
there (h.RmwAccess x) =
    elim x as (λ y. IsThere (h.RmwAccess y)) [ rmw_access.i32_atomic_rmw_add ↦ refl | _ ↦ refl ]
there (h.OrderedIndex x) =
    elim x as (λ y. IsThere (h.OrderedIndex y)) [ ordered_index.global_atomic_get ↦ refl | _ ↦ refl ]
there (h.OrderedTable x) =
    elim x as (λ y. IsThere (h.OrderedTable y)) [ ordered_table.table_atomic_get ↦ refl | _ ↦ refl ]
there (h.OrderedStruct x) =
    elim x as (λ y. IsThere (h.OrderedStruct y)) [ ordered_struct.struct_atomic_get ↦ refl | _ ↦ refl ]
there (h.LaneAccess x) =
    elim x as (λ y. IsThere (h.LaneAccess y)) [ lane_access.v128_load8_lane ↦ refl | _ ↦ refl ]
there (h.Lane x) =
    elim x as (λ y. IsThere (h.Lane y)) [ lane.i8x16_extract_lane_s ↦ refl | _ ↦ refl ]
there (h.Vector x) =
    elim x as (λ y. IsThere (h.Vector y)) [ vector.i8x16_swizzle ↦ refl | _ ↦ refl ]
there _ = refl

-- past the end there is the default alone, which has an index below the end
pub index_below : (x : Op) → table_index x < op_count
index_below x =
    ⊎_elim (λ l. l)
    (λ h.
    let past : get_or all_ops (table_index x) first ≡ first =
    get_or_past all_ops (table_index x) first (let e = table_length in omega arith) in
    subst (λ (y : Op). table_index y < op_count) (sym past ∙ there x) (lit< tt))
    (cases_lt (table_index x) op_count)

pub row_below : (x : Op) → op_row x < op_count
row_below x =
    subst (λ (y : Op). op_row y < op_count) (there x)
    (ltb-true (op_row (get_or all_ops (table_index x) first)) op_count
    (agree_below_at (λ k. nat_lt (op_row (get_or all_ops k first)) op_count) (λ k. true) op_count
    (table_index x) refl (index_below x)))

-- the word at an index is the word of the instruction at that index
pub entry_at : (k : ℕ) → k < op_count → get_or words k [] ≡ op_word (get_or all_ops k first)
entry_at k l =
    get_or-map op_word all_ops k first [] (let e = table_length in omega arith)

-- two instructions at the same index are the same
pub one_index : (x y : Op) → table_index x ≡ table_index y → x ≡ y
one_index x y e = sym (there x) ∙ ap (λ (k : ℕ). get_or all_ops k first) e ∙ there y

-- two instructions with the same row are the same
pub one_row : (x y : Op) → op_row x ≡ op_row y → x ≡ y
one_row x y e = one_index x y (ap index_of_row e)

-- two instructions with the same word are the same
pub one_word : (x y : Op) → op_word x ≡ op_word y → x ≡ y
one_word x y e =
    one_index x y (same_index words (table_index x) (table_index y) words_rise
    (let l = words_length in let b = index_below x in omega arith)
    (let l = words_length in let b = index_below y in omega arith)
    (entry_at (table_index x) (index_below x) ∙ ap op_word (there x) ∙ e
    ∙ sym (entry_at (table_index y) (index_below y) ∙ ap op_word (there y))))

-- the index where the word of an instruction is
pub found_at : (x : Op) → (k : ℕ) × (k < op_count) × (get_or words k [] ≡ op_word x)
found_at x =
    (table_index x, index_below x, entry_at (table_index x) (index_below x) ∙ ap op_word (there x))
