use Rattle.wat_print_module.specs.Prelude.{expression_view, lines_more, elem_item_form}
use Rattle.wat_print_module.proofs.elem.write_items.Goals as goal

pub loop-item-preserved : goal.loop-item-preserved
loop-item-preserved c =
    lines_more expression_view elem_item_form.spell elem_item_form.printable c.args.items.now
    c.loop-item.item-index c.item-item.result c.args.out.now c.loop-item.out c.write_item.new.out
    c.loop-item-test.true c.item-item.is c.loop-item.invariant c.in_ok-write_item.ensures.written
    c.in_ok-write_item.ensures.printable
