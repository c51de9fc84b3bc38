-- The names that files of this crate and of the crates above it import most, passed on from one place.
-- Declares nothing.
pub use Rattle.wat_lexer.specs.Cut.{Run}
pub use Rattle.wat_tokens.specs.Index.{identifier, name_of}
pub use Rattle.wat_tokens.specs.Integers.{unsigned_of}
pub use Rattle.wat_tokens.specs.Test.{at_id}
pub use Rattle.wat_tokens.specs.Tests.{none_left}
pub use Rattle.wat_tokens.specs.Whole.{TextSpells}
pub use Rattle.wat_types.specs.Prelude.{digit_value, signed_decimal, IsUtf8, bytes_eq, is_idchar, Cuts, Element, Idchars, IsCut, IsToken, Name, Str, blank, close, done, hex_byte, is_hex, is_raw, raw_byte, token, is_integer, is_standard, Annotation, Id, Integer, Keyword, LParen, Placed, RParen, Reserved, String, Token, is_open, tokens_of, group, paren, IndexModel, begins_index, index_view, number, unsigned, all_of, many, many_spells, NoParens, after_word, flag, made, made_where, one, opt, seq, where_else, word, Production, in_parens, string, text, at_group, at_integer, at_more, at_word, run, second_word, begins_id, begins_integer, begins_word, more, second, option_view, function_type, function_type_no_names, FunctionTypeModel, Group, ParamModel, at_func, begins_func, param, result, Label, labelled, RefTypeModel, TypeUseModel, ValTypeModel}
unfoldable pub use Rattle.wat_types.specs.Prelude.{read, visible, visible_tokens, function_groups, val_types, label, is_64, table_type}
pub use Rattle.wat_types.specs.Define.{type_view}
pub use Rattle.wat_types.specs.Function.{param_view}
pub use Rattle.wat_types.specs.FunctionSpells.{FunctionSpells}
pub use Rattle.wat_types.specs.Limits.{table_type_of}
pub use Rattle.wat_types.specs.Struct.{member_view}
pub use Rattle.wat_types.specs.declared.heap.AbstractHeapType.{AbstractHeapType}
pub use Rattle.wat_print.specs.Annotation.{annotation_form}
pub use Rattle.wat_print.specs.Define.{type_form}
pub use Rattle.wat_print.specs.Form.{Form, Test, after_form, any, behind_form, blank_form, by, by_where, else_form, filled_form, flag_form, group_form, many_form, only_where_form, option_form, paren_form, pick, seq_form, token_form, told_form, unwritten_form, word_form}
pub use Rattle.wat_print.specs.Function.{func_group_form, groups_of, param_form, param_groups, param_label, params_form, printable_function, result_groups, vals_form}
pub use Rattle.wat_print.specs.Index.{index_form, printable_index, spell_index}
pub use Rattle.wat_print.specs.Label.{at_most_one, by_itself, id_form, in_groups, label_form, listed_form, none_labelled}
pub use Rattle.wat_print.specs.Layout.{LayoutPart, Writes, blanks, broken, lay, line, tokens_in}
pub use Rattle.wat_print.specs.Limits.{OfIntegers, is_u64, limits_form, memory_form, page_form, table_form, table_parts, width_form}
pub use Rattle.wat_print.specs.Parts.{WroteLines, each, grouped, if_some, spell_flag, spell_option}
pub use Rattle.wat_print.specs.Printed.{NoneSpells, Printing, may_break, printing_by}
pub use Rattle.wat_print.specs.Prints.{Inside, Left, Must, Nests, Passes, Printed, Prints, Unparses}
pub use Rattle.wat_print.specs.Reference.{heap_form, named_form, plain_word, ref_form, val_form}
pub use Rattle.wat_print.specs.Strings.{printable_string, string_form, text_form}
pub use Rattle.wat_print.specs.Struct.{member_form, member_label}
pub use Rattle.wat_print.specs.Text.{Page, all_are, blank_page, escape, printed_text, put, quoted, quoted_as}
pub use Rattle.wat_print.specs.Use.{unnamed_use_form, use_form}
pub use Rattle.wat_print.specs.WellFormed.{WellFormed, is_byte, is_given, is_keyword, is_name, is_printable, noted, nothing}
