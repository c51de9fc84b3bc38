use Rattle.wat_print_module.specs.Prelude.{field_view, lines_more, field_form}
use Rattle.wat_print_module.proofs.module.write_fields.Goals as goal

pub loop-number-preserved : goal.loop-number-preserved
loop-number-preserved c =
    lines_more field_view field_form.spell field_form.printable c.args.fields.now
    c.loop-number.number c.index-fields-number.result c.args.out.now c.loop-number.out
    c.write_field.new.out c.loop-number-test.true c.index-fields-number.is
    c.loop-number.invariant c.in-Ok.ensures.written
    c.in-Ok.ensures.printable
