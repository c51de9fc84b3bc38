-- Texts as tokens, and the functions, globals and tags that they spell: the values read from them.
use Rattle.std.specs.Prelude.{[], ◌∷◌, Some, None, refl, codes}
use Rattle.std.specs.Char.{encode_utf8}
use Rattle.std.specs.Str.{chars, is_utf8}
use Rattle.wat_fields.specs.Prelude.{many_at, many_reads, name_annotation, spelled_whole, Keyword, function_groups, func_groups, label, label_of, no_label, global_type, type_use, use_of, i32, i64, f32, val_type, inline_export, no_head, head, inline_import, alone, nop_read, inline, func_of, func_inline, func_defined, func, FuncModel, global_defined, global, local_of, labelled_local, plain_locals, listed_locals, local_parser, locals, tag}
use Rattle.wat_expr.specs.Alone.{nop}
use Rattle.wat_types.specs.Group.{func_group, params, plain_params}
use Rattle.wat_fields.specs.FunctionRows.{locals_and_body, Locals, ImportedGlobal, PlainTag}

abbrev with_locals : FuncModel
with_locals =
    func_of no_head (use_of None None, inline (local_of no_label i32 ∷ local_of no_label i64 ∷ local_of (label_of (Some (codes "x")) None) f32 ∷ []) (alone nop))

pub locals_of_groups : Locals
unfolding func func_defined func_inline head inline_export label name_annotation type_use function_groups func_groups locals local_parser listed_locals plain_locals labelled_local val_type many_at many_reads
locals_of_groups = spelled_whole func (Keyword (codes "func") ∷ locals_and_body) with_locals (rw (nop_read [] refl) refl)

pub imported_global : ImportedGlobal
unfolding global global_defined head inline_export inline_import label name_annotation global_type val_type many_at many_reads is_utf8 chars encode_utf8
imported_global = spelled_whole global _ _ refl

pub plain_tag : PlainTag
unfolding tag head inline_export label name_annotation type_use function_groups func_groups func_group params plain_params val_type many_at many_reads
plain_tag = spelled_whole tag _ _ refl
