-- Laws: the entries of a `dylink.0` section.
use Rattle.std.proofs.Common.{◌≤◌, lit≤}
use Rattle.wat_links.specs.Flags.{flag_list, symbol_flags}
use Rattle.wat_links.specs.Dylink.{lone_entry, mem_info_entry, sizes, names_entry}
use Rattle.wat_links.specs.DylinkEntries.{export_entry, import_entry}
use Rattle.wat_links.specs.Entries.{entry}

pub entry_consumes : 1 ≤ entry.least
unfolding entry export_entry import_entry symbol_flags flag_list lone_entry mem_info_entry sizes
    names_entry
entry_consumes = lit≤ tt
