-- The names that files of this crate and of the crates above it import most, passed on from one place.
-- Declares nothing.
pub use Rattle.std.proofs.lemmas.List.{take_more}
pub use Rattle.std.specs.Option.{option_to_list}
pub use Rattle.wat_lexer.specs.Cut.{FirstFault}
pub use Rattle.wat_lexer.specs.Offset.{offset_of}
pub use Rattle.wat_lexer.specs.View.{IfFault}
pub use Rattle.wat_lexer.specs.declared.fault.Fault.{Fault}
pub use Rattle.wat_tokens.specs.Index.{identifier}
pub use Rattle.wat_tokens.specs.Many.{many}
pub use Rattle.wat_tokens.specs.Test.{at_group, at_id, at_integer}
pub use Rattle.wat_links.specs.Dylink.{subsection_view}
pub use Rattle.wat_links.specs.Import.{at_inline_import}
unfoldable pub use Rattle.wat_links.specs.Item.{item_sig}
pub use Rattle.wat_fields.specs.Local.{locals_view}
unfoldable pub use Rattle.wat_fields.specs.Locals.{locals}
pub use Rattle.wat_fields.specs.Offset.{head_behind}
pub use Rattle.wat_core.specs.Prelude.{IsUtf8, ModuleFieldModel, field_view, field_group, ModuleModel, module_view, SpellsModule, LocalModel, exprs, indices, IsCut, Placed, Error, Memory, runtime_path, target_arch, entries_in, of_export, of_import, other, begins_inline_import, names_view, number, owning}
unfoldable pub use Rattle.wat_core.specs.Prelude.{module_field, module_, item_list}
pub use Rattle.wat_core.specs.declared.wrong_fields.FieldFaults.{FieldFaults}
pub use Rattle.wat_print.specs.Laws.Form.{else_inside, option_seen}
pub use Rattle.wat_print.specs.Laws.Written.{lines_more}
pub use Rattle.wat_print.specs.Parts.{WroteLines}
pub use Rattle.wat_print.specs.declared.output.Layout.{Layout}
pub use Rattle.wat_print_instr.specs.Prelude.{Left, printed_text, Line}
pub use Rattle.wat_print_instr.specs.Laws.Prelude.{and_parts, ltb-true, Decides-and, Decides-like, nat_tests, flat_map-append, Decides, list_any, bytes_eq, ExpressionModel, expression_view, Keyword, LParen, Token, Test, any, many_form, paren_form, pick, printable_index, by_itself, label_form, annotated, after_prints, behind_prints, else_prints, group_prints, grouped_prints, made_prints, many_prints, only_where_prints, option_prints, paren_prints, prints_only, respelled, seq_prints, told_prints, whole_prints, whole_where, label_prints, memory_prints, width_prints, OnlyPrintable, only_made, only_weaker, index_prints, named_prints, no_short, ref_prints, global_prints, string_prints, text_prints, use_prints, Writes, each, NoneSpells, Inside, Printed, Prints, Unparses, Page, is_keyword, printable_expression, no_mnemonic, expression_only, plain_prints, unsigned_prints, group, paren, name_of, all_of, made, opt, seq, where_else, text, at_lparen, at_more, at_word, second_word, begins_integer, begins_lparen, ends, more, no_items, begins_ref, short_word, AbstractHeapType}
unfoldable pub use Rattle.wat_print_instr.specs.Laws.Prelude.{expression, at_shorthand}
pub use Rattle.wat_print_module.specs.Data.{offset_form}
pub use Rattle.wat_print_module.specs.DataVal.{byte_form, data_val_form}
pub use Rattle.wat_print_module.specs.Dylink.{are_cut, entries_form, entry_form}
pub use Rattle.wat_print_module.specs.Elem.{elem_item_form, elem_items_form}
pub use Rattle.wat_print_module.specs.Expression.{ends_expression, expression_form}
pub use Rattle.wat_print_module.specs.Field.{field_form}
pub use Rattle.wat_print_module.specs.FieldHead.{head_form}
pub use Rattle.wat_print_module.specs.Item.{printable_sig}
pub use Rattle.wat_print_module.specs.Laws.Body.{expression_front}
pub use Rattle.wat_print_module.specs.Laws.DataVal.{data_vals_prints}
pub use Rattle.wat_print_module.specs.Laws.Expression.{expression_prints}
pub use Rattle.wat_print_module.specs.Laws.FieldHead.{head_prints, inline_import_prints}
pub use Rattle.wat_print_module.specs.Laws.Forms.{first_prints}
pub use Rattle.wat_print_module.specs.Laws.Fronts.{no_export, no_import_word}
pub use Rattle.wat_print_module.specs.Laws.Item.{sig_prints}
pub use Rattle.wat_print_module.specs.Local.{listed_local_form, local_form, local_label, locals_form}
pub use Rattle.wat_print_module.specs.Module.{UnprintableField, spell_module_group}
pub use Rattle.wat_print_module.specs.Producers.{produced_form, versioned_form}
