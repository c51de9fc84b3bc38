-- The names that files of this crate and of the crates above it import most, passed on from one place.
-- Declares nothing.
pub use Rattle.std.proofs.Math.Seq.{take-append_seam}
pub use Rattle.std.proofs.lemmas.Bool.{and_from, and_parts, cases_Bool, not-true, or_left}
pub use Rattle.std.proofs.lemmas.Bool.Decides.{nat_tests}
pub use Rattle.std.proofs.lemmas.List.{length-append, length-map, take-append-drop}
pub use Rattle.std.proofs.lemmas.Slice.Eq.{bytes_eq-Decides}
pub use Rattle.std.specs.Borrow.{Bor}
pub use Rattle.std.specs.Int.{Width, cast_unsigned, is_power_of_two, to_le_bytes, w16, w32, w64, w8}
pub use Rattle.wat_tokens.specs.Counts.{Carries, SameSettings, Stays}
pub use Rattle.wat_tokens.specs.Floats.{none}
pub use Rattle.wat_tokens.specs.Groups.{paren}
pub use Rattle.wat_tokens.specs.Index.{index_view}
pub use Rattle.wat_tokens.specs.Integers.{signed}
pub use Rattle.wat_tokens.specs.Laws.Filled.{filled_behind}
pub use Rattle.wat_tokens.specs.Laws.Groups.{lparen_is}
pub use Rattle.wat_tokens.specs.Laws.Many.{many_ends}
pub use Rattle.wat_tokens.specs.Laws.Production.{by_read}
unfoldable pub use Rattle.wat_tokens.specs.ManySpells.{many_at, many_reads}
pub use Rattle.wat_tokens.specs.Parses.{Gives, NotHeapless}
pub use Rattle.wat_tokens.specs.PartSpells.{one_reads}
pub use Rattle.wat_tokens.specs.Parts.{after_word, where_else}
pub use Rattle.wat_tokens.specs.Reads.{Reads}
pub use Rattle.wat_tokens.specs.Test.{after, at_group, at_integer, at_lparen, at_more, at_word, either_test, opposite_test, test_of}
pub use Rattle.wat_tokens.specs.Tests.{as_lparen, begins_annotation, begins_group, begins_lparen}
pub use Rattle.wat_tokens.specs.Views.{option_view, plain}
pub use Rattle.wat_tokens.specs.Whole.{TextSpells}
pub use Rattle.wat_types.specs.Heap.{HeapTypeModel, abstract_}
pub use Rattle.wat_types.specs.Label.{Label, label_view}
pub use Rattle.wat_types.specs.Reference.{RefTypeModel, at_ref, ref_view}
pub use Rattle.wat_types.specs.Storage.{plain_global}
pub use Rattle.wat_mnemonics.specs.TableIndex.{op_of_row}
pub use Rattle.wat_operands.specs.Block.{BlockTypeModel}
pub use Rattle.wat_operands.specs.Branch.{BrTableModel}
pub use Rattle.wat_operands.specs.Call.{CallIndirectModel}
pub use Rattle.wat_operands.specs.Casts.{CastBranchModel}
pub use Rattle.wat_operands.specs.CatchClause.{CatchModel}
pub use Rattle.wat_operands.specs.Catches.{TryTableModel}
pub use Rattle.wat_operands.specs.Handler.{HandleModel}
pub use Rattle.wat_operands.specs.Handlers.{ResumeModel, ResumeThrowModel, begins_handler}
pub use Rattle.wat_operands.specs.Lanes.{goes_on}
pub use Rattle.wat_operands.specs.Memory.{array, array_follows, memory}
unfoldable pub use Rattle.wat_operands.specs.Number.{read}
pub use Rattle.wat_operands.specs.Vector.{bytes_of}
pub use Rattle.wat_operands.specs.declared.catches.CatchKind.TheVariants.{Catch, CatchAll, CatchAllRef, CatchRef}
pub use Rattle.wat_operands.specs.declared.lanes.LaneArg.{LaneArg}
pub use Rattle.wat_operands.specs.declared.memory.MemArgOrdering.{MemArgOrdering}
pub use Rattle.wat_operands.specs.declared.ordering.Ordering.{Ordering}
pub use Rattle.wat_operands.specs.declared.ordering.Ordering.TheVariants.{AcqRel, SeqCst}
pub use Rattle.wat_operands.specs.declared.vector.I8x16Shuffle.{I8x16Shuffle}
pub use Rattle.wat_operands.specs.declared.vector.V128Const.{V128Const}
pub use Rattle.wat_operands.specs.declared.vector.V128Const.TheVariants.{F32x4, I16x8, I32x4, I64x2, I8x16}
pub use Rattle.wat_instr.specs.Prelude.{eqb-true, lt-ltb, append-nil, append_cancel_right, bytes_eq, MayFollow, NoTypeSecond, Instruction, InstructionModel, behind_word, else_instr, end_instr, instr_of, instruction_view, is_block, is_br_if, is_if, instruction_none, Operand, by_test, Annotation, Integer, Keyword, LParen, RParen, String, Token, Error, Memory, access_align, atomic_access_align, lane_access_align, rmw_access_align, there, op_row, op_word, all_ops, LabelOp, Op, begins_catch, LaneAccessModel, MemArgModel, MemArgTargetModel, begins_with, begins_ordering, ordered, result_follows, tokens_alone, turns_too, group, IndexModel, begins_index, index, number, unsigned, joined, closes-append, opens-append, none_is_not, some_is, many, closes, opens, made, opt, seq, Production, Read, bind, none_of, some_of, ReadsAt, Spelled, in_parens, State, Test, run, second_word, begins_word, ends, no_items, owning, ValTypeModel}
unfoldable pub use Rattle.wat_instr.specs.Prelude.{instruction, operand, array_of_length, block_type, br_table, call_indirect, cast_branch, catch_clause, try_table, handler, resume, resume_table, resume_throw, lane_access, lane_arg, atomic_mem_arg, mem_arg, ordering, select_types, copy, index_or_0, index_pair, init, eight, float_const, four, shuffle, sixteen, two, v128_const, wide_const, name_annotation, function_groups, func_groups, label, ref_type, type_use}
pub use Rattle.wat_instr.specs.Laws.First.{instruction_read}
pub use Rattle.wat_instr.specs.Operand.{access, block, branches, call, cast, caught, chosen, fence, float, heap, integer, lane, nothing, one_index, ordered_index, ordered_indices, reference, resumed, shuffled, sized, thrown, two_indices, vector}
pub use Rattle.wat_instr.specs.Token.{Id}
pub use Rattle.wat_expr.specs.Alone.{nop}
pub use Rattle.wat_expr.specs.Expression.{ExpressionModel, SpansAre, expression_spells, expression_view, heapless_expression, hint_view, value_of}
unfoldable pub use Rattle.wat_expr.specs.ExpressionProduction.{expression}
pub use Rattle.wat_expr.specs.Facts.{Stops}
pub use Rattle.wat_expr.specs.Flat.{Flat, flat, no_output, push}
pub use Rattle.wat_expr.specs.FlatForm.{flat_tokens, own}
pub use Rattle.wat_expr.specs.Folded.{Group, Groups, NoGroup, folded_reads, folded_spells, folded_value, groups, is_folded, unfolded_groups}
unfoldable pub use Rattle.wat_expr.specs.FoldedProduction.{folded_instruction}
pub use Rattle.wat_expr.specs.GroupTurn.{IsHalted, group_state}
pub use Rattle.wat_expr.specs.Items.{BeginsWithBranch, Block, Folded, Hinted, IfElse, IfThen, IsBlock, IsIf, IsOther, Items, Nil, Plain, Sort, hint_name, hints, hints_behind, is_branch, keyword, lists, mark, reads, sort, sort_of, unfolded}
pub use Rattle.wat_expr.specs.Laws.Facts.{group_is, if_branch, lists_between, read_of, reads_balanced, reads_not_then, reads_nothing, reads_of, reads_shorter, word_front}
pub use Rattle.wat_expr.specs.Laws.Folded.{groups_at_complete}
pub use Rattle.wat_expr.specs.Laws.Reading.{stops_end}
pub use Rattle.wat_expr.specs.OpenGroups.{AfterElse, AfterThen, InArm, InBlock, InFolded, InIf, OpenGroup, heads_in, open_groups}
pub use Rattle.wat_expr.specs.Progress.{Balanced, Finishes, Fits, IsOpen, LoopState, Stuck, TakesPlain, TalliedFlat, Tallies, Turn, TurnAnswers, emit, item_more, noted, state_with, suits, with_tallies}
pub use Rattle.wat_expr.specs.Reading.{are_groups, begins_branch, closed, expression_reads, items_by, more_by, opened}
unfoldable pub use Rattle.wat_expr.specs.Reading.{items_at}
pub use Rattle.wat_expr.specs.Taken.{ReadsBehind, suits_word}
