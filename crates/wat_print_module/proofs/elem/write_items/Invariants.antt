use Rattle.std.specs.Prelude.{take}
use Rattle.wat_print_module.specs.Prelude.{expression_view, WroteLines, elem_item_form}
use Rattle.wat_print_module.proofs.elem.write_items.Given as goal

abbrev pub invariant-loop-item : goal.invariant-loop-item
invariant-loop-item l =
    WroteLines expression_view elem_item_form.spell elem_item_form.printable
    (take l.item-index l.items) l.fn.out l.out
