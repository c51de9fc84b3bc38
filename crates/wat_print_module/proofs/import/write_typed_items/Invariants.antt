use Rattle.std.specs.Prelude.{drop, map}
use Rattle.wat_print.specs.Prints.{Left}
use Rattle.wat_links.specs.Import.{typed_view}
use Rattle.wat_print_module.specs.Import.{typed_form}
use Rattle.wat_print_module.proofs.import.write_typed_items.Given as goal

abbrev pub invariant-loop-item : goal.invariant-loop-item
invariant-loop-item l =
    Left typed_form (map typed_view (drop l.item-index l.items)) (map typed_view l.items) l.fn.out
    l.out
