-- Sample texts as tokens, and the custom sections that are read from them.
use Rattle.std.specs.Char.{encode_utf8}
use Rattle.std.specs.Prelude.{refl}
use Rattle.std.specs.Str.{chars, is_utf8}
use Rattle.wat_links.specs.Prelude.{many_at, many_reads, read, spelled_whole, custom, cut_subsections, dylink, sizes, mem_info_entry, names_entry, lone_entry, subsection, export_entry, subsections, flag_list, symbol_flags, flag_bits, section, after, custom_place}
use Rattle.wat_links.specs.CustomRows.{CustomPlaces, Exports, Sizes}

pub places : CustomPlaces
unfolding custom_place after section
places = spelled_whole custom_place _ _ refl

pub exports : Exports
unfolding custom dylink cut_subsections subsections subsection export_entry lone_entry names_entry symbol_flags flag_list flag_bits many_at many_reads read is_utf8 chars encode_utf8
exports = spelled_whole custom _ _ refl

pub sizes_of_tables : Sizes
unfolding custom dylink cut_subsections subsections subsection lone_entry mem_info_entry sizes many_at many_reads read
sizes_of_tables = spelled_whole custom _ _ refl
