-- The names of the prelude, and the laws, for proofs and laws.
-- Declares nothing.
pub use Rattle.std.proofs.lemmas.Bool.{eqb-true, or_from, or_right}
pub use Rattle.std.proofs.lemmas.Grind.{flat_map-append}
pub use Rattle.std.proofs.lemmas.Int.{ints}
pub use Rattle.std.proofs.lemmas.List.{length-append, take-append-drop}
pub use Rattle.wat_lexer.specs.Laws.Bytes.{same_number}
pub use Rattle.wat_lexer.specs.Number.{signed_value, twos_complement}
pub use Rattle.wat_lexer.specs.declared.number.Sign.{Sign}
pub use Rattle.wat_lexer.specs.declared.number.Sign.TheVariants.{Minus}
pub use Rattle.wat_tokens.specs.Laws.Test.{end_denied}
pub use Rattle.wat_types.specs.Prelude.{and_parts, cond_both, leb-true, lt-ltb, ltb-true, not-true, nat_tests, decimal_is_IsNumeral, is_utf8-from_IsUtf8, is_power_of_two, encode_utf8_all, begins_hex, magnitude, sign_of, unsigned_value, up_to, without_sign, none, at_index, index, name, signed, joined, HeapTypeModel, abstract_, val_type_consumes, TableTypeModel}
unfoldable pub use Rattle.wat_types.specs.Prelude.{past_front, ref_type}
pub use Rattle.wat_print.specs.Prelude.{digit_value, signed_decimal, IsUtf8, bytes_eq, is_idchar, is_raw, is_integer, Integer, Keyword, LParen, Token, type_form, Form, Test, any, blank_form, filled_form, flag_form, group_form, many_form, paren_form, pick, seq_form, token_form, told_form, word_form, param_label, vals_form, index_form, printable_index, spell_index, by_itself, in_groups, none_labelled, OfIntegers, is_u64, limits_form, memory_form, page_form, table_form, each, if_some, spell_option, NoneSpells, Printing, may_break, printing_by, Must, Nests, Passes, Printed, Prints, Unparses, heap_form, ref_form, val_form, printable_string, string_form, text_form, member_form, member_label, Page, all_are, blank_page, escape, put, quoted, quoted_as, unnamed_use_form, WellFormed, is_given, is_keyword, is_name, is_printable, noted, IndexModel, begins_index, identifier, index_view, number, unsigned, unsigned_of, all_of, many, made, opt, seq, word, Production, in_parens, string, text, at_id, at_integer, at_more, at_word, run, second_word, begins_id, begins_integer, none_left, second, option_view, type_view, RefTypeModel, ValTypeModel}
unfoldable pub use Rattle.wat_print.specs.Prelude.{read, val_types, table_type}
pub use Rattle.wat_print.specs.Define.{rec_form}
pub use Rattle.wat_print.specs.Laws.Bytes.{byte_is}
pub use Rattle.wat_print.specs.Laws.Form.{after_prints, behind_prints, else_prints, filled_prints, flag_prints, group_prints, made_prints, many_prints, one_prints, option_prints, paren_prints, passes_of, prints_only, respelled, restated_prints, seq_prints, told_prints, whole_prints, whole_where, word_prints}
pub use Rattle.wat_print.specs.Laws.Label.{in_groups_all, label_prints, listed}
pub use Rattle.wat_print.specs.Laws.Limits.{memory_prints, table_prints}
pub use Rattle.wat_print.specs.Laws.Nesting.{well_formed_cut, well_formed_visible}
pub use Rattle.wat_print.specs.Laws.Numbers.{decimal_printable, magnitude_decimal, no_sign, unsigned_decimal, unsigned_fits}
pub use Rattle.wat_print.specs.Laws.Only.{OnlyPrintable, given_parts, only_one}
pub use Rattle.wat_print.specs.Laws.Parts.{Spells, and_also, each_all, each_both, each_front, well_formed_both, well_formed_one, well_formed_paren}
pub use Rattle.wat_print.specs.Laws.Printed.{on_one_line, reads_back, unspelled}
pub use Rattle.wat_print.specs.Laws.Reference.{index_prints, no_plain, no_short, ref_prints, val_prints}
pub use Rattle.wat_print.specs.Laws.Storage.{field_prints, global_prints}
pub use Rattle.wat_print.specs.Laws.Strings.{string_prints, text_prints}
pub use Rattle.wat_print.specs.Laws.Use.{use_prints}
pub use Rattle.wat_print.specs.Laws.Written.{lines_more, put_both, put_parens, puts_both, puts_put}
pub use Rattle.wat_print.specs.Prints.{PrintedLines}
pub use Rattle.wat_print.specs.Storage.{global_form}
