-- Laws: subsections of the dylink section.
use Rattle.std.proofs.Common.{◌≤◌, lit≤}
use Rattle.wat_links.specs.Flags.{flag_list, symbol_flags}
use Rattle.wat_links.specs.Dylink.{sizes, mem_info_entry, names_entry, lone_entry, subsection}
use Rattle.wat_links.specs.DylinkEntries.{export_entry, import_entry}

pub subsection_consumes : 1 ≤ subsection.least
unfolding subsection export_entry import_entry symbol_flags flag_list lone_entry mem_info_entry
    sizes names_entry
subsection_consumes = lit≤ tt
