-- The names that files of this crate and of the crates above it import most, passed on from one place.
-- Declares nothing.
pub use Rattle.std.proofs.Math.Bool.{beq}
pub use Rattle.std.proofs.lemmas.List.{length-map}
pub use Rattle.std.specs.Fmt.{signed_decimal}
pub use Rattle.std.specs.Str.{IsUtf8, bytes_eq}
pub use Rattle.std.specs.String.{string_bytes}
pub use Rattle.wat_tokens.specs.Index.{name}
pub use Rattle.wat_tokens.specs.Laws.Test.{end_denied}
pub use Rattle.wat_tokens.specs.State.{State}
pub use Rattle.wat_tokens.specs.Test.{Test, run}
pub use Rattle.wat_tokens.specs.Views.{option_view}
pub use Rattle.wat_types.specs.Function.{function_type, function_view, params_view}
pub use Rattle.wat_types.specs.Group.{FunctionTypeModel}
pub use Rattle.wat_types.specs.Heap.{HeapTypeModel, abstract_word, concrete, exact}
pub use Rattle.wat_types.specs.Reference.{ref_view}
pub use Rattle.wat_types.specs.Value.{ValTypeModel, val_view}
pub use Rattle.wat_links.specs.Custom.{linked, produced}
pub use Rattle.wat_links.specs.CustomPlace.{section_word}
unfoldable pub use Rattle.wat_links.specs.CustomPlace.{custom_place, section}
pub use Rattle.wat_links.specs.Dylink.{Dylink0SubsectionModel, export_info, import_info, mem_info, needed, runtime_path, target_arch}
pub use Rattle.wat_links.specs.Entries.{Dylink0Entry, entries_in, of_export, of_import, other}
pub use Rattle.wat_links.specs.Export.{ExportTypeModel, begins_inline_export, export_kind_word}
pub use Rattle.wat_links.specs.Import.{ImportItemsModel, begins_inline_import, group1, group2, items_view}
pub use Rattle.wat_links.specs.Item.{ItemSigModel, sig_view}
pub use Rattle.wat_links.specs.ProducerEntry.{Versioned}
pub use Rattle.wat_links.specs.Producers.{names_view}
pub use Rattle.wat_links.specs.Raw.{RawCustomSectionModel}
pub use Rattle.wat_links.specs.declared.custom_place.CustomPlace.{CustomPlace}
pub use Rattle.wat_links.specs.declared.custom_place.CustomPlace.TheVariants.{After, Before, BeforeFirst}
pub use Rattle.wat_links.specs.declared.export.ExportKind.{ExportKind}
pub use Rattle.wat_tokens.specs.Visible.{IsPlaceOf, behind_one, rest_by, seen, shown}
unfoldable pub use Rattle.wat_tokens.specs.Visible.{closing}
pub use Rattle.wat_mnemonics.specs.Ops.{op_word}
pub use Rattle.wat_mnemonics.specs.declared.op.Op.{Op}
pub use Rattle.wat_instr.specs.Operand.{Operand}
pub use Rattle.wat_fields.specs.Prelude.{cases_Bool, ExpressionModel, expression_view, DataModel, numbers, written, ElemModel, FuncModel, func_view, GlobalModel, MemoryModel, exprs, indices, is_funcref, TableModel, TagModel, InstructionModel, IsCut, by_test, begins_annotation_group, begins_hidden_group, deeper, shuts, Keyword, LParen, Placed, RParen, Token, tokens_of, Error, Memory, CustomModel, custom_view, raw, ExportModel, export_view, FieldHeadModel, field_head, ImportsModel, single, AfterLast, turns_too, paren, IndexModel, index_view, number, made, Production, string, at_more, at_word, begins_annotation, begins_lparen, begins_word, ends, more, no_items, owning, TextSpells, abstract_, RefTypeModel}
unfoldable pub use Rattle.wat_fields.specs.Prelude.{expression, folded_instruction, data_val, data_vals, item_list, normal_table, table, table_kind, hidden_count, hidden_count_at, visible, visible_tokens, custom, inline_export, head, import_items, imports, inline_import, raw_custom, raw_data, raw_place, many_reads, name_annotation, behind, label, is_64, table_type, ref_type}
pub use Rattle.wat_fields.specs.Data.{DataKindModel, data_kind_view}
pub use Rattle.wat_fields.specs.DataVal.{DataValModel, bytes_in, data_val_view, data_vals_view}
pub use Rattle.wat_fields.specs.Elem.{ElemKindModel, Segment, elem_kind_view}
pub use Rattle.wat_fields.specs.Func.{FuncUse, func_kind_view, func_use_view, imported}
pub use Rattle.wat_fields.specs.Global.{global_kind_view}
pub use Rattle.wat_fields.specs.Local.{LocalModel}
pub use Rattle.wat_fields.specs.Memory.{MemoryKindModel, memory_kind_view}
pub use Rattle.wat_fields.specs.Payload.{ElemPayloadModel, payload_view}
pub use Rattle.wat_fields.specs.Table.{TableKindModel, begins_inline_elems, inline, table_kind_view}
pub use Rattle.wat_fields.specs.Tag.{tag_kind_view}
pub use Rattle.wat_core.specs.Field.{ModuleField, ModuleFieldModel, a_custom, a_data, a_func, a_global, a_memory, a_rec, a_start, a_table, a_tag, a_type, an_elem, an_export, an_import, field_view}
unfoldable pub use Rattle.wat_core.specs.Field.{func_or_later_field, global_or_later_field, module_field, start, start_or_later_field}
pub use Rattle.wat_core.specs.FieldGroup.{field_group}
pub use Rattle.wat_core.specs.Laws.Module.{field_group_consumes}
pub use Rattle.wat_core.specs.Laws.Sight.{none_seen, seen_behind}
pub use Rattle.wat_core.specs.Module.{ModuleKindModel, ModuleModel, binary, fields_view, module_view, text}
unfoldable pub use Rattle.wat_core.specs.Module.{fields, module_, module_kind, pieces}
pub use Rattle.wat_core.specs.ModuleGroups.{GroupsTo, IsNext, IsPart, IsWithin, end_by}
pub use Rattle.wat_core.specs.ModuleHead.{wrong_end}
pub use Rattle.wat_core.specs.Text.{IsModule, SpellsModule}
pub use Rattle.wat_core.specs.WrongFields.{IsField, Tells}
