-- Sample texts as tokens, and the types that are read from them.
use Rattle.std.specs.Prelude.{◌≡◌, List, [], ◌∷◌, ◌++◌, Some, refl, codes}
use Rattle.wat_types.specs.Prelude.{Token, RParen, Keyword, Integer, name_annotation, in_parens, Spelled, spelled_whole, many_at, many_reads, read, kind, linked, described, maybe_shared, type_def, type_, exponent, function_type, function_groups, func_groups, plain_params, params, func_group, label, is_64, limits_type, page_exponent, pagesize, pagesize_or_none, shorthand, ref_type, storage_type, global_type, plain_members, members, member_group, field_type, struct_type, type_use, val_type, at_func}
use Rattle.wat_types.specs.Rows.{PageSizes, Globals, LongLimits, FinalSub, OpenSub, Structure, Described, Uses}

abbrev text_64k : List Token
text_64k = Integer (codes "65536") ∷ []

exponent_64k : page_exponent.reads (text_64k ++ RParen ∷ []) ≡ Some (16, RParen ∷ [])
unfolding page_exponent read
exponent_64k = page_exponent.complete 16 text_64k (RParen ∷ []) (65536, (Integer (codes "65536"), refl, refl), refl)

abbrev page_text_64k : List Token
page_text_64k = in_parens (Keyword (codes "pagesize") ∷ text_64k)

page_of_64k : Spelled pagesize_or_none page_text_64k (Some 16)
unfolding pagesize_or_none pagesize
page_of_64k = spelled_whole pagesize_or_none page_text_64k (Some 16) (rw exponent_64k refl)

pub page_sizes : PageSizes
unfolding pagesize_or_none pagesize page_exponent exponent read
page_sizes = (spelled_whole pagesize_or_none _ _ refl, page_of_64k, spelled_whole pagesize_or_none _ _ refl)

pub globals : Globals
unfolding global_type val_type ref_type shorthand many_at many_reads read
globals = (spelled_whole global_type _ _ refl, spelled_whole global_type _ _ refl)

pub long_limits : LongLimits
unfolding limits_type is_64 many_at many_reads read
long_limits = spelled_whole limits_type _ _ refl

pub final_sub : FinalSub
unfolding type_def maybe_shared described linked kind function_groups func_groups func_group many_at many_reads read
final_sub = spelled_whole type_def _ _ refl

pub open_sub : OpenSub
unfolding type_def maybe_shared described linked kind field_type storage_type many_at many_reads read
open_sub = (spelled_whole type_def _ _ refl, spelled_whole type_def _ _ refl)

pub structure : Structure
unfolding struct_type member_group members plain_members label name_annotation field_type storage_type val_type many_at many_reads read
structure = spelled_whole struct_type _ _ refl

pub described_type : Described
unfolding type_ type_def maybe_shared described linked kind label name_annotation struct_type member_group many_at many_reads read
described_type = spelled_whole type_ _ _ refl

pub uses : Uses
unfolding type_use function_groups func_groups func_group params plain_params val_type label name_annotation many_at many_reads read
uses = (spelled_whole (type_use at_func function_type) _ _ refl, spelled_whole (type_use at_func function_type) _ _ refl, spelled_whole (type_use at_func function_type) _ _ refl)
