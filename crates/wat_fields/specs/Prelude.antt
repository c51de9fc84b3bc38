-- The names that files of this crate and of the crates above it import most, passed on from one place.
-- Declares nothing.
pub use Rattle.std.proofs.lemmas.Bool.{eq-eqb}
pub use Rattle.std.specs.declared.alloc.Global.{Global}
pub use Rattle.wat_tokens.specs.Cut.{FirstFault, IsCut}
pub use Rattle.wat_tokens.specs.Offset.{offset_of}
pub use Rattle.wat_tokens.specs.Sight.{begins_annotation_group, begins_hidden_group, deeper, shuts}
unfoldable pub use Rattle.wat_tokens.specs.Sight.{hidden_count, hidden_count_at, visible, visible_tokens}
pub use Rattle.wat_tokens.specs.State.{annotated}
unfoldable pub use Rattle.wat_tokens.specs.State.{behind}
pub use Rattle.wat_tokens.specs.Tests.{begins_id}
pub use Rattle.wat_tokens.specs.View.{AreSkips, IfFault, no_entry, placed}
pub use Rattle.wat_types.specs.Define.{TypeModel, type_view}
unfoldable pub use Rattle.wat_types.specs.Define.{type_}
pub use Rattle.wat_types.specs.Label.{label_of}
unfoldable pub use Rattle.wat_types.specs.Limits.{limits_type}
pub use Rattle.wat_types.specs.Recursion.{rec_view}
unfoldable pub use Rattle.wat_types.specs.Recursion.{rec}
unfoldable pub use Rattle.wat_types.specs.Reference.{at_shorthand, shorthand}
pub use Rattle.wat_types.specs.Value.{f32, i32, i64}
pub use Rattle.wat_links.specs.Prelude.{map_push, by_test, Annotation, Integer, Keyword, LParen, RParen, String, Token, FieldHeadModel, field_head, imports_of, turns_too, SameSettings, paren, IndexModel, index_view, joined, filled_behind, by_read, spelled_whole, many, one_reads, after_word, flag, made, seq, where_else, Production, ReadsAt, in_parens, string, at_more, at_word, as_lparen, begins_lparen, begins_word, ends, more, second, ViewOf, no_items, owning, Label, label_view, no_label, RefTypeModel, use_of}
unfoldable pub use Rattle.wat_links.specs.Prelude.{read, custom, inline_export, head, import_items, imports, import_choice, inline_import, exact_use, func_kind, item_sig, many_at, many_reads, name_annotation, function_groups, func_groups, label, is_64, memory_type, pagesize_or_none, table_type, ref_type, global_type, type_use, val_type}
pub use Rattle.wat_links.specs.Custom.{CustomModel, custom_view, raw}
pub use Rattle.wat_links.specs.Export.{ExportModel, export_of, export_view}
unfoldable pub use Rattle.wat_links.specs.Export.{export_, export_kind}
pub use Rattle.wat_links.specs.FieldHead.{no_head}
pub use Rattle.wat_links.specs.Import.{ImportsModel, imports_view, single}
unfoldable pub use Rattle.wat_links.specs.Import.{single_item}
pub use Rattle.wat_links.specs.Raw.{raw_of}
unfoldable pub use Rattle.wat_links.specs.Raw.{raw_custom, raw_data, raw_place}
pub use Rattle.wat_links.specs.declared.custom_place.CustomPlace.TheVariants.{AfterLast}
pub use Rattle.wat_mnemonics.specs.Laws.Word.{op_of_word}
unfoldable pub use Rattle.wat_mnemonics.specs.Word.{mnemonic_of}
pub use Rattle.wat_expr.specs.Prelude.{cases_Bool, eqb-true, Bor, ExpressionModel, expression_view, hint_view, Nil, Instruction, InstructionModel, instr_of, instruction_view, Error, Memory, index, number, some_of, begins_annotation, TextSpells, abstract_}
unfoldable pub use Rattle.wat_expr.specs.Prelude.{expression, folded_instruction, instruction, operand}
pub use Rattle.wat_expr.specs.Alone.{alone}
pub use Rattle.wat_expr.specs.Laws.Alone.{grouped_read, nop_read}
pub use Rattle.wat_expr.specs.Rows.{group_text}
pub use Rattle.wat_expr.specs.Token.{Placed, tokens_of}
pub use Rattle.wat_expr.specs.declared.expression.Expression.{Expression}
pub use Rattle.wat_fields.specs.Data.{DataModel, active, data_of, data_view, passive}
unfoldable pub use Rattle.wat_fields.specs.Data.{data_active, data_kind, data_memory, data_segment}
pub use Rattle.wat_fields.specs.DataVal.{numbers, written}
unfoldable pub use Rattle.wat_fields.specs.DataVal.{data_val}
unfoldable pub use Rattle.wat_fields.specs.DataVals.{data_vals}
pub use Rattle.wat_fields.specs.Elem.{ElemModel, declared, elem_of, elem_view}
unfoldable pub use Rattle.wat_fields.specs.Elem.{active_segment, declared_segment, elem, elem_offset, in_some_table, passive_segment, segment, table_number}
pub use Rattle.wat_fields.specs.Func.{FuncModel, func_of, func_view, inline}
unfoldable pub use Rattle.wat_fields.specs.Func.{func, func_defined, func_inline}
pub use Rattle.wat_fields.specs.Global.{GlobalModel, global_of, global_view}
unfoldable pub use Rattle.wat_fields.specs.Global.{global, global_defined}
unfoldable pub use Rattle.wat_fields.specs.Item.{item, written_or_folded}
pub use Rattle.wat_fields.specs.Laws.DataVal.{data_val_consumes}
pub use Rattle.wat_fields.specs.Laws.Local.{local_group_consumes}
pub use Rattle.wat_fields.specs.Laws.Numbers.{vector_consumes}
pub use Rattle.wat_fields.specs.Laws.Payload.{item_consumes}
pub use Rattle.wat_fields.specs.Local.{local_of}
unfoldable pub use Rattle.wat_fields.specs.Local.{labelled_local, listed_locals, local_parser, plain_locals}
unfoldable pub use Rattle.wat_fields.specs.Locals.{locals}
pub use Rattle.wat_fields.specs.Memory.{MemoryModel, memory_of, memory_view, normal}
unfoldable pub use Rattle.wat_fields.specs.Memory.{inline_memory, memory, memory_kind}
unfoldable pub use Rattle.wat_fields.specs.Numbers.{number_list, wide_numbers}
pub use Rattle.wat_fields.specs.Offset.{head_behind}
unfoldable pub use Rattle.wat_fields.specs.Offset.{head_last, offset_inside}
pub use Rattle.wat_fields.specs.Payload.{exprs, indices, is_funcref, ref_func_of}
unfoldable pub use Rattle.wat_fields.specs.Payload.{elem_list, index_list, item_list, payload, payload_or_indices, typed_elems}
unfoldable pub use Rattle.wat_fields.specs.RefFunc.{ref_func}
pub use Rattle.wat_fields.specs.Table.{TableModel, table_of, table_view}
unfoldable pub use Rattle.wat_fields.specs.Table.{inline_table, normal_table, table, table_kind}
pub use Rattle.wat_fields.specs.Tag.{TagModel, tag_of, tag_view}
unfoldable pub use Rattle.wat_fields.specs.Tag.{tag}
