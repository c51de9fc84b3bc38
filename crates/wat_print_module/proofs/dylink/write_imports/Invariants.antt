use Rattle.std.specs.Prelude.{drop, map}
use Rattle.wat_print_module.specs.Prelude.{of_import, Left, entry_form}
use Rattle.wat_links.specs.Dylink.{dylink_import_view}
use Rattle.wat_print_module.proofs.dylink.write_imports.Given as goal

abbrev pub invariant-loop-entry : goal.invariant-loop-entry
invariant-loop-entry l =
    Left entry_form (map of_import (map dylink_import_view (drop l.entry-index l.entries)))
    (map of_import (map dylink_import_view l.entries)) l.fn.out l.out
