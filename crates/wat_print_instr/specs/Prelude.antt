-- The names that files of this crate and of the crates above it import most, passed on from one place.
-- Declares nothing.
pub use Rattle.std.specs.List.{list_any}
pub use Rattle.wat_tokens.specs.Index.{same_index}
unfoldable pub use Rattle.wat_tokens.specs.Kind.{past_front}
pub use Rattle.wat_types.specs.Heap.{abstract_word, concrete, exact}
pub use Rattle.wat_types.specs.Limits.{TableTypeModel}
pub use Rattle.wat_types.specs.Reference.{begins_ref, short_word}
pub use Rattle.wat_types.specs.Storage.{GlobalTypeModel}
pub use Rattle.wat_types.specs.declared.limits.MemoryType.{MemoryType}
pub use Rattle.wat_expr.specs.Prelude.{Bor, ExpressionModel, expression_view, hint_view, Group, Groups, NoGroup, folded_spells, groups, unfolded_groups, Hinted, Items, Nil, Plain, hint_name, hints_behind, is_branch, lists, mark, unfolded, InstructionModel, instruction_view, Operand, op_row, op_word, all_ops, op_of_row, Op, begins_catch, begins_group, begins_lparen, ends, no_items, HeapTypeModel, abstract_}
unfoldable pub use Rattle.wat_expr.specs.Prelude.{expression, folded_instruction, instruction}
pub use Rattle.wat_print.specs.Prelude.{bytes_eq, Annotation, Integer, Keyword, LParen, RParen, String, Token, annotation_form, Form, Test, after_form, any, behind_form, blank_form, by, by_where, else_form, filled_form, group_form, many_form, option_form, paren_form, seq_form, token_form, told_form, unwritten_form, word_form, index_form, printable_index, label_form, listed_form, none_labelled, Writes, OfIntegers, memory_form, table_form, table_parts, width_form, each, if_some, spell_option, NoneSpells, Printing, printing_by, Left, Printed, named_form, ref_form, val_form, string_form, text_form, printed_text, put, use_form, WellFormed, is_byte, is_given, is_printable, nothing, paren, IndexModel, index_view, Production, in_parens, at_word, begins_integer, begins_word, more, second, option_view, FunctionTypeModel, Label, RefTypeModel, TypeUseModel, ValTypeModel, AbstractHeapType}
unfoldable pub use Rattle.wat_print.specs.Prelude.{label}
pub use Rattle.wat_print.specs.Prints.{PrintedLines}
pub use Rattle.wat_print.specs.Storage.{global_form}
pub use Rattle.wat_print.specs.declared.fault.Refused.TheVariants.{Memory}
pub use Rattle.wat_print.specs.declared.output.Layout.TheVariants.{Line}
pub use Rattle.wat_print_instr.specs.ExpressionForm.{HintedInstruction, hint_for, hints_after, printable_expression, printable_step, spell_expression, spell_hint, spell_step, step_of, steps_from}
pub use Rattle.wat_print_instr.specs.FoldedForm.{catch_first, first_apart, group_from, groups_behind, is_catch, keeps_apart, no_hints, op_of, own_form, own_groups, printable_folded, spell_folded, spell_groups, takes_catches}
pub use Rattle.wat_print_instr.specs.Form.{default_form, exactly, next_form, plain_form}
pub use Rattle.wat_print_instr.specs.Indices.{is_index_0}
pub use Rattle.wat_print_instr.specs.InstructionForm.{operand_form, passes, printable_instruction, spell_instruction}
pub use Rattle.wat_print_instr.specs.Numbers.{is_unsigned, unsigned_form}
