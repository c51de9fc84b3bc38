use Rattle.std.specs.Prelude.{drop, map}
use Rattle.wat_print.specs.Prints.{Left}
use Rattle.wat_links.specs.Import.{named_view}
use Rattle.wat_print_module.specs.Import.{named_form}
use Rattle.wat_print_module.proofs.import.write_named_items.Given as goal

abbrev pub invariant-loop-item : goal.invariant-loop-item
invariant-loop-item l =
    Left named_form (map named_view (drop l.item-index l.items)) (map named_view l.items) l.fn.out
    l.out
