use Rattle.std.specs.Prelude.{drop, map}
use Rattle.wat_print_module.specs.Prelude.{of_export, Left, entry_form}
use Rattle.wat_links.specs.Dylink.{dylink_export_view}
use Rattle.wat_print_module.proofs.dylink.write_exports.Given as goal

abbrev pub invariant-loop-entry : goal.invariant-loop-entry
invariant-loop-entry l =
    Left entry_form (map of_export (map dylink_export_view (drop l.entry-index l.entries)))
    (map of_export (map dylink_export_view l.entries)) l.fn.out l.out
