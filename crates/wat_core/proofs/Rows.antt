-- Texts as tokens, and the modules that they spell: the values read from them.
use Rattle.std.specs.Prelude.{◌≡◌, List, [], ◌∷◌, ◌++◌, Some, refl, codes, pos}
use Rattle.std.specs.Char.{encode_utf8}
use Rattle.std.specs.Str.{chars, is_utf8}
use Rattle.wat_fields.specs.Prelude.{many_at, many_reads, name_annotation, read, spelled_whole, Token, RParen, Keyword, Integer, type_, function_groups, func_groups, label, is_64, limits_type, pagesize_or_none, memory_type, table_type, rec, shorthand, ref_type, at_shorthand, global_type, type_use, val_type, custom, raw_place, raw_data, raw_custom, export_kind, export_, inline_export, import_items, imports, head, single_item, import_choice, exact_use, func_kind, item_sig, instruction, operand, alone, ExpressionModel, expression, Nil, grouped_read, group_text, data_kind, data_segment, data_val, data_vals, passive_segment, segment, elem, func_inline, func_defined, func, global_defined, global, locals, memory_kind, memory, index_list, payload, normal_table, table_kind, table, tag}
use Rattle.wat_core.specs.Prelude.{start, start_or_later_field, global_or_later_field, func_or_later_field, module_field, fields, pieces, module_kind, module_}
use Rattle.wat_types.specs.Define.{kind, linked, described, maybe_shared, type_def}
use Rattle.wat_types.specs.Recursion.{types}
use Rattle.wat_instr.specs.Laws.First.{instruction_read}
use Rattle.wat_core.specs.Rows.{zero, NamedModule, TwoFields, Binary, Types, Links, Functions, Stores, ZeroGlobal, Segments, Customs}
use Rattle.wat_mnemonics.specs.declared.op.Op.TheVariants as word
use Rattle.wat_instr.specs.Operand as operands

-- ---- modules

pub named : NamedModule
unfolding module_ module_kind fields label name_annotation many_at many_reads is_utf8 chars encode_utf8
named = (spelled_whole module_ _ _ refl, spelled_whole module_ _ _ refl)

pub two_fields : TwoFields
unfolding module_ module_kind fields module_field func_or_later_field global_or_later_field start_or_later_field start label name_annotation many_at many_reads read
two_fields = spelled_whole module_ _ _ refl

pub in_binary : Binary
unfolding module_ module_kind pieces label name_annotation many_at many_reads
in_binary = spelled_whole module_ _ _ refl

-- ---- fields

pub of_types : Types
unfolding module_ module_kind fields module_field type_ rec types type_def maybe_shared described linked kind function_groups func_groups label name_annotation many_at many_reads
of_types = (spelled_whole module_ _ _ refl, spelled_whole module_ _ _ refl, spelled_whole module_ _ _ refl)

pub of_links : Links
unfolding module_ module_kind fields module_field func_or_later_field global_or_later_field start_or_later_field start imports import_items import_choice single_item item_sig func_kind exact_use export_ export_kind type_use function_groups func_groups label name_annotation many_at many_reads read is_utf8 chars encode_utf8
of_links = (spelled_whole module_ _ _ refl, spelled_whole module_ _ _ refl, spelled_whole module_ _ _ refl)

abbrev closed : List Token
closed = RParen ∷ []

abbrev nothing : ExpressionModel
nothing = record { instrs = []; hints = [] }

nothing_read : expression.reads closed ≡ Some (nothing, closed)
unfolding expression
nothing_read = expression.complete nothing [] closed (Nil, refl, refl, refl)

pub of_functions : Functions
unfolding module_ module_kind fields module_field func_or_later_field global_or_later_field func func_defined func_inline tag head inline_export locals type_use function_groups func_groups label name_annotation many_at many_reads
of_functions = (spelled_whole module_ _ _ (rw nothing_read refl), spelled_whole module_ _ _ refl)

pub of_stores : Stores
unfolding module_ module_kind fields module_field func_or_later_field table table_kind normal_table table_type memory memory_kind memory_type limits_type is_64 ref_type shorthand at_shorthand pagesize_or_none head inline_export label name_annotation many_at many_reads read
of_stores = (spelled_whole module_ _ _ refl, spelled_whole module_ _ _ refl)

abbrev const_text : List Token
const_text = Keyword (codes "i32.const") ∷ Integer (codes "0") ∷ []

zero_front : instruction.reads (const_text ++ RParen ∷ closed) ≡ Some (zero, RParen ∷ closed)
unfolding operand read
zero_front = instruction_read word.i32_const (codes "i32.const") refl (operands.integer (pos 0)) (Integer (codes "0") ∷ RParen ∷ closed) (RParen ∷ closed) refl

zero_read : expression.reads (group_text (codes "i32.const") (Integer (codes "0") ∷ []) ++ closed) ≡ Some (alone zero, closed)
zero_read = grouped_read zero const_text closed zero_front refl refl

pub of_globals : ZeroGlobal
unfolding module_ module_kind fields module_field func_or_later_field global_or_later_field global global_defined global_type val_type head inline_export label name_annotation many_at many_reads
of_globals = spelled_whole module_ _ _ (rw zero_read refl)

pub of_segments : Segments
unfolding module_ module_kind fields module_field func_or_later_field global_or_later_field start_or_later_field elem segment passive_segment payload index_list data_segment data_kind data_vals data_val label name_annotation many_at many_reads read
of_segments = (spelled_whole module_ _ _ refl, spelled_whole module_ _ _ refl)

pub of_customs : Customs
unfolding module_ module_kind fields module_field func_or_later_field global_or_later_field start_or_later_field custom raw_custom raw_place raw_data label name_annotation many_at many_reads is_utf8 chars encode_utf8
of_customs = spelled_whole module_ _ _ refl
