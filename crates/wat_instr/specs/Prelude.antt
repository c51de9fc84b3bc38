-- The names that files of this crate and of the crates above it import most, passed on from one place.
-- Declares nothing.
pub use Rattle.std.proofs.lemmas.Bool.{lt-ltb}
pub use Rattle.std.proofs.lemmas.List.{append_cancel_right}
pub use Rattle.std.specs.Vec.{vec_capacity, vec_len}
pub use Rattle.std.specs.declared.alloc.Global.{Global}
pub use Rattle.wat_tokens.specs.Asks.{Alike, everything}
pub use Rattle.wat_tokens.specs.Cost.{Cost, turns_too}
pub use Rattle.wat_tokens.specs.Groups.{group}
pub use Rattle.wat_tokens.specs.Integers.{signed_of, unsigned, unsigned_of}
pub use Rattle.wat_tokens.specs.Joined.{joined}
pub use Rattle.wat_tokens.specs.Laws.Parens.{closes-append, opens-append}
pub use Rattle.wat_tokens.specs.Laws.Refuses.{refused_as}
pub use Rattle.wat_tokens.specs.Laws.Settled.{settled_alike}
pub use Rattle.wat_tokens.specs.Laws.Test.{sees}
pub use Rattle.wat_tokens.specs.Many.{many}
pub use Rattle.wat_tokens.specs.NameAnnotation.{begins_name}
pub use Rattle.wat_tokens.specs.Parens.{AreBalanced, closes, opens}
pub use Rattle.wat_tokens.specs.Parses.{Accepts}
pub use Rattle.wat_tokens.specs.PartSpells.{opt_spells}
pub use Rattle.wat_tokens.specs.Parts.{seq}
pub use Rattle.wat_tokens.specs.Production.{none_of}
pub use Rattle.wat_tokens.specs.Reads.{Call}
pub use Rattle.wat_tokens.specs.Steady.{Steady}
pub use Rattle.wat_tokens.specs.Test.{Test, run, second_word}
pub use Rattle.wat_tokens.specs.Tests.{begins_id, word_only}
pub use Rattle.wat_tokens.specs.Views.{ViewOf, owning}
pub use Rattle.wat_types.specs.FunctionNoNames.{function_type_no_names}
pub use Rattle.wat_types.specs.Group.{at_func, begins_func, group_follows}
unfoldable pub use Rattle.wat_types.specs.Group.{func_group, params, plain_params}
unfoldable pub use Rattle.wat_types.specs.Heap.{abstract_heap_type}
unfoldable pub use Rattle.wat_types.specs.Reference.{shorthand}
pub use Rattle.wat_types.specs.Use.{type_index}
pub use Rattle.wat_mnemonics.specs.Prelude.{eqb-true, ltb-true, or_parts, append-nil, bytes_decides, bytes_eq, Annotation, LParen, RParen, String, Error, Memory, op_row, op_word, first, all_ops, table_index, Costs, tokens_alone, a_word, bind_some, Refuses, ReadsAt, State, starts, begins_word, ends}
pub use Rattle.wat_mnemonics.specs.Access.{access_align, atomic_access_align, lane_access_align, rmw_access_align}
pub use Rattle.wat_mnemonics.specs.Laws.TableIndex.{index_below, table_length, there}
pub use Rattle.wat_mnemonics.specs.declared.indexed.BlockOp.{BlockOp}
pub use Rattle.wat_mnemonics.specs.declared.indexed.IndexedOp.{IndexedOp}
pub use Rattle.wat_mnemonics.specs.declared.indexed.LabelOp.{LabelOp}
pub use Rattle.wat_mnemonics.specs.declared.op.Op.{Op}
pub use Rattle.wat_mnemonics.specs.declared.scalar.ScalarOp.{ScalarOp}
pub use Rattle.wat_operands.specs.Prelude.{by_test, Integer, Keyword, Token, LaneAccessModel, access_of, MemArgModel, ordered, IndexModel, begins_index, identifier, index, number, none_is_not, some_is, many_spells, made, opt, Front, Production, Read, bind, some_of, Spelled, in_parens, no_items, FunctionTypeModel, no_label, use_of, ValTypeModel}
unfoldable pub use Rattle.wat_operands.specs.Prelude.{array_of_length, field, block_type, br_table, call_indirect, cast_branch, catch_clause, catch_kind, try_table, aim, handler, resume, resume_table, resume_throw, lane_access, lane_arg, align, align_or, atomic_mem_arg, mem_arg, offset_or_0, target, ordering, select_types, copy, index_or_0, index_pair, init, four, shuffle, two, v128_const, wide_const, past_front, name_annotation, function_groups, func_groups, val_types, heap_type, label, ref_type, type_use, val_type}
pub use Rattle.wat_operands.specs.Align.{number_behind}
pub use Rattle.wat_operands.specs.Block.{signature}
pub use Rattle.wat_operands.specs.Catches.{at_catch, begins_catch}
pub use Rattle.wat_operands.specs.Lanes.{lane_in}
pub use Rattle.wat_operands.specs.Laws.Catches.{catch_clause_consumes}
pub use Rattle.wat_operands.specs.Laws.Select.{result_group_consumes}
pub use Rattle.wat_operands.specs.Memory.{MemArgTargetModel, begins_with}
pub use Rattle.wat_operands.specs.Ordering.{begins_ordering}
pub use Rattle.wat_operands.specs.ResultGroup.{result_group}
pub use Rattle.wat_operands.specs.Select.{at_result, result_follows}
pub use Rattle.wat_operands.specs.Vector.{twice}
unfoldable pub use Rattle.wat_operands.specs.Vector.{eight, float_const, sixteen}
pub use Rattle.wat_instr.specs.Follows.{MayFollow, NoTypeSecond}
pub use Rattle.wat_instr.specs.Instruction.{Instruction, InstructionModel, behind_word, else_instr, end_instr, instr_of, instruction_view, is_block, is_br_if, is_if, op_in, operand_in}
unfoldable pub use Rattle.wat_instr.specs.Instruction.{instruction}
pub use Rattle.wat_instr.specs.Laws.First.{instruction_none}
pub use Rattle.wat_instr.specs.Operand.{Operand}
unfoldable pub use Rattle.wat_instr.specs.Operand.{operand}
unfoldable pub use Rattle.wat_instr.specs.Reading.{ReadsOperand}
