-- The names of the prelude, and the laws, for proofs and laws.
-- Declares nothing.
pub use Rattle.std.proofs.Math.Bool.{beq}
pub use Rattle.std.proofs.lemmas.Bool.{and_left, and_right}
pub use Rattle.std.proofs.lemmas.Bool.Decides.{Decides-and, Decides-like}
pub use Rattle.std.proofs.lemmas.List.{drop_more, map-append}
pub use Rattle.std.specs.Bool.{Decides}
pub use Rattle.std.specs.Cmp.Lexicographic.{bytes_decides}
unfoldable pub use Rattle.wat_types.specs.Reference.{at_shorthand}
pub use Rattle.wat_expr.specs.Prelude.{and_from, or_left, bytes_eq-Decides, folded_value, Folded, IfElse, IfThen, reads, by_test, there, group, where_else, at_lparen}
unfoldable pub use Rattle.wat_expr.specs.Prelude.{operand, catch_clause, try_table, v128_const}
pub use Rattle.wat_print.specs.Prelude.{Inside, name_of}
pub use Rattle.wat_print.specs.Laws.Prelude.{and_parts, cond_both, eqb-true, lt-ltb, ltb-true, not-true, or_right, nat_tests, decimal_is_IsNumeral, flat_map-append, ints, signed_decimal, signed_value, twos_complement, pick, by_itself, after_prints, behind_prints, else_prints, filled_prints, group_prints, made_prints, many_prints, option_prints, paren_prints, prints_only, respelled, seq_prints, told_prints, whole_prints, whole_where, word_prints, label_prints, memory_prints, table_prints, decimal_printable, magnitude_decimal, no_sign, OnlyPrintable, each_all, each_both, each_front, well_formed_one, on_one_line, unspelled, index_prints, no_short, ref_prints, val_prints, global_prints, string_prints, text_prints, use_prints, put_both, puts_both, puts_put, may_break, Prints, Unparses, Page, is_keyword, signed, unsigned, all_of, joined, end_denied, made, opt, seq, text, at_more, run, second_word, val_type_consumes}
pub use Rattle.wat_print.specs.Laws.Annotation.{annotated}
pub use Rattle.wat_print.specs.Laws.Form.{grouped_prints, only_where_prints}
pub use Rattle.wat_print.specs.Laws.Limits.{width_prints}
pub use Rattle.wat_print.specs.Laws.Only.{only_made, only_weaker, only_where}
pub use Rattle.wat_print.specs.Laws.Parts.{each_append}
pub use Rattle.wat_print.specs.Laws.Reference.{named_prints}
pub use Rattle.wat_print.specs.Laws.Written.{put_then, puts_line}
pub use Rattle.wat_print_instr.specs.Prelude.{list_any, bytes_eq, ExpressionModel, expression_view, Group, Groups, NoGroup, folded_spells, groups, unfolded_groups, Hinted, Items, Nil, hint_name, lists, unfolded, InstructionModel, instruction_view, Operand, Annotation, Integer, Keyword, LParen, RParen, Token, op_word, Op, begins_catch, Form, Test, any, else_form, many_form, paren_form, seq_form, index_form, printable_index, label_form, listed_form, Writes, table_parts, each, if_some, spell_option, NoneSpells, printing_by, Printed, PrintedLines, named_form, val_form, put, use_form, WellFormed, is_byte, is_given, nothing, Memory, HintedInstruction, hint_for, hints_after, printable_expression, printable_step, spell_expression, spell_hint, spell_step, step_of, steps_from, catch_first, first_apart, group_from, groups_behind, is_catch, keeps_apart, no_hints, op_of, own_form, own_groups, printable_folded, spell_folded, spell_groups, takes_catches, is_index_0, operand_form, passes, printable_instruction, spell_instruction, is_unsigned, unsigned_form, paren, IndexModel, index_view, same_index, Production, in_parens, at_word, begins_integer, begins_lparen, begins_word, ends, more, second, no_items, option_view, HeapTypeModel, abstract_, abstract_word, concrete, exact, RefTypeModel, begins_ref, short_word, AbstractHeapType}
unfoldable pub use Rattle.wat_print_instr.specs.Prelude.{expression, folded_instruction, instruction}
pub use Rattle.wat_print_instr.specs.Laws.Expression.{EndsExpression, expression_closed, expression_well_formed, next_step, no_mnemonic, step_more}
pub use Rattle.wat_print_instr.specs.Laws.ExpressionOnly.{expression_only}
pub use Rattle.wat_print_instr.specs.Laws.Folded.{group_last}
pub use Rattle.wat_print_instr.specs.Laws.Form.{default_prints, plain_prints}
pub use Rattle.wat_print_instr.specs.Laws.Indices.{index_or_0_prints}
pub use Rattle.wat_print_instr.specs.Laws.Instruction.{ends_annotation, ends_nothing, instruction_here, instruction_only, instruction_well_formed}
pub use Rattle.wat_print_instr.specs.Laws.Numbers.{halves_32, halves_64, signed_prints, unsigned_prints}
pub use Rattle.wat_print_instr.specs.Numbers.{signed_form}
