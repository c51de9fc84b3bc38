-- The names that files of this crate and of the crates above it import most, passed on from one place.
-- Declares nothing.
pub use Rattle.std.proofs.lemmas.List.{map_push}
pub use Rattle.wat_tokens.specs.Cost.{Cost, tokens_alone, turns_too}
pub use Rattle.wat_tokens.specs.Laws.Filled.{filled_behind}
pub use Rattle.wat_tokens.specs.Reads.{Call}
pub use Rattle.wat_tokens.specs.Tests.{as_lparen}
pub use Rattle.wat_tokens.specs.Views.{ViewOf}
pub use Rattle.wat_types.specs.Prelude.{w16, w32, w64, w8, bit_or, bytes_eq, by_test, Annotation, Integer, Keyword, LParen, RParen, String, Token, Carries, SameSettings, group, paren, IndexModel, index_view, joined, by_read, spelled_whole, after_front, many, NotHeapless, one_reads, after_word, flag, made, opt, seq, where_else, Production, Read, bind, Reads, ReadsAt, Spelled, in_parens, string, text_in, Test, at_integer, at_lparen, at_more, at_word, either_test, run, second_word, test_of, begins_lparen, begins_word, ends, more, second, word_only, no_items, option_view, owning, plain, function_view, heapless_function, FunctionTypeModel, Label, label_view, no_label, val_type_consumes, TableTypeModel, RefTypeModel, ref_view, short, GlobalTypeModel, global_type_view, TypeUseModel, heapless_use, use_of, use_view, ValTypeModel, val_view}
unfoldable pub use Rattle.wat_types.specs.Prelude.{read, many_at, many_reads, name_annotation, function_groups, func_groups, label, is_64, memory_type, pagesize_or_none, table_type, ref_type, global_type, type_use, val_type}
pub use Rattle.wat_types.specs.Reference.{at_ref}
pub use Rattle.wat_types.specs.declared.limits.MemoryType.{MemoryType}
pub use Rattle.wat_links.specs.Custom.{linked}
unfoldable pub use Rattle.wat_links.specs.Custom.{custom}
unfoldable pub use Rattle.wat_links.specs.CustomPlace.{after, custom_place, section}
unfoldable pub use Rattle.wat_links.specs.Cutting.{cut_subsections, dylink}
pub use Rattle.wat_links.specs.Dylink.{entry_run, export_info, mem_info, needed}
unfoldable pub use Rattle.wat_links.specs.Dylink.{lone_entry, mem_info_entry, names_entry, sizes, subsection}
unfoldable pub use Rattle.wat_links.specs.DylinkEntries.{export_entry}
pub use Rattle.wat_links.specs.Export.{inline_export_view}
unfoldable pub use Rattle.wat_links.specs.Export.{inline_export}
pub use Rattle.wat_links.specs.FieldHead.{FieldHeadModel, field_head, heapless_head}
unfoldable pub use Rattle.wat_links.specs.FieldHead.{head}
unfoldable pub use Rattle.wat_links.specs.FlagBits.{flag_bits}
unfoldable pub use Rattle.wat_links.specs.Flags.{flag_list, symbol_flags}
unfoldable pub use Rattle.wat_links.specs.Forms.{import_items, imports}
pub use Rattle.wat_links.specs.Import.{HeldName, SameAll, at_inline_import, begins_inline_import, group1, group2, imports_of, inline_import_view, typed_view}
unfoldable pub use Rattle.wat_links.specs.Import.{import_choice, inline_import, named_items, named_list, shared_sig, typed_items, typed_list}
unfoldable pub use Rattle.wat_links.specs.ImportItem.{named_item}
unfoldable pub use Rattle.wat_links.specs.InlineName.{inline_name}
pub use Rattle.wat_links.specs.Item.{ItemSigModel, func_kind_of, func_use}
unfoldable pub use Rattle.wat_links.specs.Item.{exact_use, func_kind, item_sig}
pub use Rattle.wat_links.specs.Laws.DylinkEntries.{export_entry_consumes, import_entry_consumes}
pub use Rattle.wat_links.specs.Laws.Flags.{flag_bits_consumes}
pub use Rattle.wat_links.specs.Laws.Producers.{producer_entry_consumes}
pub use Rattle.wat_links.specs.ProducerEntry.{ProducerEntryModel, Versioned}
pub use Rattle.wat_links.specs.Producers.{fields_of}
unfoldable pub use Rattle.wat_links.specs.Subsections.{subsections}
