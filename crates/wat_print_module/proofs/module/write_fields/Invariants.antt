use Rattle.std.specs.Prelude.{take}
use Rattle.wat_print_module.specs.Prelude.{field_view, WroteLines, field_form}
use Rattle.wat_print_module.proofs.module.write_fields.Given as goal

abbrev pub invariant-loop-number : goal.invariant-loop-number
invariant-loop-number l =
    WroteLines field_view field_form.spell field_form.printable (take l.number l.fields)
    l.fn.out l.out
