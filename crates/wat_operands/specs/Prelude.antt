-- The names that files of this crate and of the crates above it import most, passed on from one place.
-- Declares nothing.
pub use Rattle.std.specs.Global.{Box}
pub use Rattle.std.specs.Int.{byte_at, bytes_low_first}
pub use Rattle.wat_tokens.specs.Followed.{blank}
pub use Rattle.wat_tokens.specs.Index.{identifier, name_of}
pub use Rattle.wat_tokens.specs.Laws.Kind.{past_own_front}
pub use Rattle.wat_tokens.specs.Laws.Production.{none_is_not}
pub use Rattle.wat_tokens.specs.Production.{Front}
pub use Rattle.wat_tokens.specs.Test.{at_id}
pub use Rattle.wat_types.specs.Prelude.{map-append, unsigned_Decides, cast_unsigned, to_le_bytes, w16, w32, w64, w8, by_test, Id, Integer, Keyword, Token, none, IndexModel, begins_index, index, index_view, name, number, signed, by_read, some_is, spelled_whole, after_front, many_spells, NotHeapless, made, opt, Production, Read, bind, some_of, Spelled, in_parens, no_items, option_view, Index, function_view, heapless_function, FunctionTypeModel, HeapTypeModel, heap_view, label_of, labelled, no_label, RefTypeModel, heapless_use, use_of, use_view, ValTypeModel, i32, i64}
unfoldable pub use Rattle.wat_types.specs.Prelude.{read, past_front, many_at, many_reads, name_annotation, function_groups, func_groups, val_types, heap_type, label, ref_type, type_use, val_type}
pub use Rattle.wat_types.specs.declared.type_use.TypeUse.{TypeUse}
pub use Rattle.wat_operands.specs.Aggregates.{array_copy_view, array_fill_view, array_init_view, array_new_data_view, array_new_elem_view, array_new_fixed_view, cont_bind_view, struct_access_view, switch_view}
unfoldable pub use Rattle.wat_operands.specs.Aggregates.{array_of_length}
unfoldable pub use Rattle.wat_operands.specs.Align.{field}
pub use Rattle.wat_operands.specs.Block.{BlockTypeModel, block_of, block_view, signature_view}
unfoldable pub use Rattle.wat_operands.specs.Block.{block_type}
pub use Rattle.wat_operands.specs.Branch.{BrTableModel, br_table_of, br_table_view, heapless_br_table, split, split_list}
unfoldable pub use Rattle.wat_operands.specs.BranchTable.{br_table}
pub use Rattle.wat_operands.specs.Call.{CallIndirectModel, call_view}
unfoldable pub use Rattle.wat_operands.specs.Call.{call_indirect}
pub use Rattle.wat_operands.specs.Casts.{CastBranchModel, branch_desc_eq_fail_view, branch_desc_eq_view, branch_fail_view, branch_view, cast_desc_eq_view, cast_view, test_view}
unfoldable pub use Rattle.wat_operands.specs.Casts.{cast_branch}
unfoldable pub use Rattle.wat_operands.specs.CatchClause.{catch_clause, catch_kind}
pub use Rattle.wat_operands.specs.Catches.{TryTableModel, try_view}
unfoldable pub use Rattle.wat_operands.specs.Catches.{try_table}
unfoldable pub use Rattle.wat_operands.specs.Handler.{aim, handler}
pub use Rattle.wat_operands.specs.Handlers.{ResumeModel, ResumeThrowModel, resume_throw_ref_view, resume_throw_view, resume_view}
unfoldable pub use Rattle.wat_operands.specs.Handlers.{resume, resume_table, resume_throw}
pub use Rattle.wat_operands.specs.Lanes.{LaneAccessModel, access_of, lane_access_view}
unfoldable pub use Rattle.wat_operands.specs.Lanes.{lane_access, lane_arg}
pub use Rattle.wat_operands.specs.Memory.{MemArgModel, array, mem_arg_view, memory}
unfoldable pub use Rattle.wat_operands.specs.Memory.{align, align_or, atomic_mem_arg, mem_arg, offset_or_0, target}
pub use Rattle.wat_operands.specs.Ordering.{at_ordering, ordered, ordered_view}
unfoldable pub use Rattle.wat_operands.specs.Ordering.{ordering}
pub use Rattle.wat_operands.specs.Select.{select_view}
unfoldable pub use Rattle.wat_operands.specs.Select.{select_types}
pub use Rattle.wat_operands.specs.Tables.{memory_arg_view, memory_copy_view, memory_init_view, table_arg_view, table_copy_view, table_init_view}
unfoldable pub use Rattle.wat_operands.specs.Tables.{copy, index_or_0, index_pair, init}
pub use Rattle.wat_operands.specs.Vector.{bytes_of}
unfoldable pub use Rattle.wat_operands.specs.Vector.{four, shuffle, two, v128_const, wide_const}
