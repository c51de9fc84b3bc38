-- Sample texts as tokens, and the imports and exports that are read from them.
use Rattle.std.specs.Char.{encode_utf8}
use Rattle.std.specs.Prelude.{refl}
use Rattle.std.specs.Str.{chars, is_utf8}
use Rattle.wat_links.specs.Prelude.{many_at, many_reads, name_annotation, spelled_whole, function_groups, func_groups, label, type_use, inline_export, inline_name, import_items, imports, shared_sig, typed_list, named_list, typed_items, named_items, import_choice, named_item, exact_use, func_kind, item_sig}
use Rattle.wat_links.specs.LinkRows.{Imports, InlineNames}

pub imports_of_texts : Imports
unfolding imports import_items import_choice typed_items typed_list named_items named_list named_item shared_sig item_sig func_kind exact_use label name_annotation type_use function_groups func_groups many_at many_reads is_utf8 chars encode_utf8
imports_of_texts = (spelled_whole imports _ _ refl, spelled_whole imports _ _ refl, spelled_whole imports _ _ refl)

pub inline_names : InlineNames
unfolding inline_export inline_name many_at many_reads is_utf8 chars encode_utf8
inline_names = inline_export.sound _ (_, _) refl
