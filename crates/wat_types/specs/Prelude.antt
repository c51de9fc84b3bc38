-- The names that files of this crate and of the crates above it import most, passed on from one place.
-- Declares nothing.
pub use Rattle.std.proofs.Math.Bool.{and_assoc}
pub use Rattle.std.proofs.lemmas.Bool.{and_parts, and_right, cond_both, leb-true, lt-ltb, not-true, or_parts}
pub use Rattle.std.proofs.lemmas.Bool.Decides.{nat_tests}
pub use Rattle.std.proofs.lemmas.Fmt.{decimal_is_IsNumeral}
pub use Rattle.std.proofs.lemmas.List.{map-append, take_more}
pub use Rattle.std.proofs.lemmas.Slice.Eq.{bytes_eq-Decides}
pub use Rattle.std.proofs.lemmas.Str.{IsUtf8-from_ascii, IsUtf8-from_is_utf8, is_utf8-from_IsUtf8}
pub use Rattle.std.specs.Borrow.{Bor, Fml, LendsIf, MutBor, RattleType, sem}
pub use Rattle.std.specs.Char.{digit_char, digit_value}
pub use Rattle.std.specs.Fmt.{signed_decimal}
pub use Rattle.std.specs.Int.{Width, cast_unsigned, is_power_of_two, to_le_bytes, w16, w32, w64, w8}
pub use Rattle.std.specs.Int.Bits.{bit_or}
pub use Rattle.std.specs.Option.{option_map}
pub use Rattle.std.specs.Str.{IsUtf8, encode_utf8_all}
pub use Rattle.std.specs.declared.alloc.Global.{Global}
pub use Rattle.wat_tokens.specs.Prelude.{bytes_eq, Keyword, LParen, RParen, Token, Copies, Carries, Quiet, SameSettings, none, group, paren, IndexModel, at_index, index, index_view, integer, signed, unsigned, joined, a_lparen, a_rparen, in_front, after_front, many, begins_name, NotHeapless, with_rest, after_word, flag, made, made_where, one, opt, seq, where_else, word, Production, Read, bind, some_of, Reads, ReadsAt, restated, Spelled, string, text, Question, Test, answer, at_group, at_integer, at_listed, at_more, at_word, both, either_test, opposite, run, second_word, starts, begins_word, ends, look_up, more, second, word_in, heapless_option, holding, no_items, option_view, owning, plain}
unfoldable pub use Rattle.wat_tokens.specs.Prelude.{visible_tokens, many_at, many_reads, name_annotation}
pub use Rattle.wat_tokens.specs.Laws.Prelude.{pow_mono, ltb-true, append-nil, unsigned_Decides, bytes_decides, by_test, Annotation, Id, add_all, all_of, adding_fails, adding_goes_on, apart, doubles, by_read, some_is, many_spells, one_reads, begins_id}
pub use Rattle.wat_tokens.specs.Adding.{add_rest}
pub use Rattle.wat_tokens.specs.Bytes.{between, is_idchar}
pub use Rattle.wat_tokens.specs.Cut.{Cuts, Element, Idchars, IsCut, IsToken, Name, Str, blank, close, done, hex_byte, is_hex, is_raw, raw_byte, token}
pub use Rattle.wat_tokens.specs.Index.{at_second_index, begins_index, index_of, name, number}
pub use Rattle.wat_tokens.specs.Kind.{a_string, a_word, word_from}
unfoldable pub use Rattle.wat_tokens.specs.Kind.{past_front}
pub use Rattle.wat_tokens.specs.Laws.Loops.{front_of_none}
pub use Rattle.wat_tokens.specs.Laws.Many.{many_ends}
pub use Rattle.wat_tokens.specs.Laws.Spelled.{spelled_whole}
pub use Rattle.wat_tokens.specs.Number.{begins_hex, is_integer, magnitude, sign_of, unsigned_value, up_to, without_sign}
unfoldable pub use Rattle.wat_tokens.specs.Number.{read}
pub use Rattle.wat_tokens.specs.Parens.{NoParens}
pub use Rattle.wat_tokens.specs.Parts.{annotation}
pub use Rattle.wat_tokens.specs.Sight.{begins_hidden_group, deeper, is_standard, shuts}
unfoldable pub use Rattle.wat_tokens.specs.Sight.{visible}
pub use Rattle.wat_tokens.specs.Spelled.{in_parens}
pub use Rattle.wat_tokens.specs.Strings.{text_in}
pub use Rattle.wat_tokens.specs.Test.{at_ends, at_kind, at_lparen, test_of}
pub use Rattle.wat_tokens.specs.Tests.{as_id, as_string, begins_group, begins_integer, begins_lparen, word_only}
pub use Rattle.wat_tokens.specs.Token.{Integer, Placed, Reserved, String, is_close, is_open, tokens_of}
pub use Rattle.wat_tokens.specs.declared.floats.F32.{F32}
pub use Rattle.wat_tokens.specs.declared.floats.F64.{F64}
pub use Rattle.wat_tokens.specs.declared.index.Index.{Index}
pub use Rattle.wat_types.specs.Define.{InnerTypeKindModel, TypeDefModel, TypeModel, array, begins_type, cont, func, struct_}
unfoldable pub use Rattle.wat_types.specs.Define.{described, kind, linked, maybe_shared, type_, type_def}
unfoldable pub use Rattle.wat_types.specs.Exponent.{exponent}
pub use Rattle.wat_types.specs.FieldType.{FieldTypeModel, field_of}
unfoldable pub use Rattle.wat_types.specs.FieldType.{field_type}
pub use Rattle.wat_types.specs.Function.{function_type, function_view, heapless_function, params_view, unnamed_view}
unfoldable pub use Rattle.wat_types.specs.Function.{function_groups}
pub use Rattle.wat_types.specs.FunctionNoNames.{function_type_no_names}
pub use Rattle.wat_types.specs.FunctionSpells.{function_tested}
unfoldable pub use Rattle.wat_types.specs.FunctionSpells.{func_groups}
pub use Rattle.wat_types.specs.Group.{FunctionTypeModel, Group, ParamModel, at_func, begins_func, empty_function, function_of, group_follows, merged, param, params_in, result, results_in, unlabelled}
unfoldable pub use Rattle.wat_types.specs.Group.{func_group, params, plain_params, val_types}
pub use Rattle.wat_types.specs.Heap.{HeapTypeModel, abstract_, abstract_word, abstract_words, concrete, exact, heap_view}
unfoldable pub use Rattle.wat_types.specs.Heap.{abstract_heap_type, heap_type}
pub use Rattle.wat_types.specs.Label.{Label, at_label, begins_label, label_of, label_view, labelled, no_label}
unfoldable pub use Rattle.wat_types.specs.Label.{label}
pub use Rattle.wat_types.specs.Laws.FunctionSpells.{function_from, function_to}
pub use Rattle.wat_types.specs.Laws.Group.{func_group_consumes}
pub use Rattle.wat_types.specs.Laws.Named.{abstract_is_named}
pub use Rattle.wat_types.specs.Laws.Order.{by_parts}
pub use Rattle.wat_types.specs.Laws.Value.{val_type_consumes}
pub use Rattle.wat_types.specs.Limits.{TableTypeModel, table_type_view}
unfoldable pub use Rattle.wat_types.specs.Limits.{is_64, limits_type, memory_type, page_exponent, pagesize, pagesize_or_none, table_type}
pub use Rattle.wat_types.specs.Order.{add, in_order, only_results}
pub use Rattle.wat_types.specs.PageSize.{ExponentSpells}
pub use Rattle.wat_types.specs.Reference.{RefTypeModel, ref_view, short, short_word, shorthand_for, shorthand_words}
unfoldable pub use Rattle.wat_types.specs.Reference.{at_shorthand, ref_type, shorthand}
pub use Rattle.wat_types.specs.Storage.{GlobalTypeModel, StorageTypeModel, global_type_view, i16, i8, long_global, plain_global, val}
unfoldable pub use Rattle.wat_types.specs.Storage.{global_type, storage_type}
pub use Rattle.wat_types.specs.Struct.{StructFieldModel}
unfoldable pub use Rattle.wat_types.specs.Struct.{member_group, members, plain_members}
unfoldable pub use Rattle.wat_types.specs.StructType.{struct_type}
pub use Rattle.wat_types.specs.Tag.{tag_type, tag_type_view}
pub use Rattle.wat_types.specs.Use.{SameFunction, SameUse, TypeUseModel, heapless_use, type_follows, use_of, use_view}
unfoldable pub use Rattle.wat_types.specs.Use.{type_use}
pub use Rattle.wat_types.specs.Value.{ValTypeModel, f32, f64, i32, i64, plain_words, ref, v128, val_view}
unfoldable pub use Rattle.wat_types.specs.Value.{val_type}
