-- Sample texts as tokens, and the operands that are read from them.
use Rattle.std.specs.Prelude.{refl}
use Rattle.wat_operands.specs.Prelude.{many_at, many_reads, name_annotation, read, spelled_whole, function_groups, func_groups, val_types, label, type_use, val_type, block_type, try_table, catch_kind, catch_clause, resume_table, aim, handler, select_types}
use Rattle.wat_operands.specs.GroupRows.{Catches, Handlers, Selects}

pub catches : Catches
unfolding try_table catch_clause catch_kind block_type label name_annotation type_use function_groups func_groups many_at many_reads read
catches = spelled_whole try_table _ _ refl

pub handlers : Handlers
unfolding resume_table handler aim many_at many_reads read
handlers = spelled_whole resume_table _ _ refl

pub selects : Selects
unfolding select_types val_types val_type many_at many_reads
selects = (spelled_whole select_types _ _ refl, spelled_whole select_types _ _ refl, spelled_whole select_types _ _ refl)
