-- Laws: entries of the dylink section: an export, an import.
use Rattle.std.proofs.Common.{◌≤◌, lit≤}
use Rattle.wat_links.specs.Flags.{flag_list, symbol_flags}
use Rattle.wat_links.specs.DylinkEntries.{export_entry, import_entry}

pub export_entry_consumes : 1 ≤ export_entry.least
unfolding export_entry symbol_flags flag_list
export_entry_consumes = lit≤ tt

pub import_entry_consumes : 1 ≤ import_entry.least
unfolding import_entry symbol_flags flag_list
import_entry_consumes = lit≤ tt
