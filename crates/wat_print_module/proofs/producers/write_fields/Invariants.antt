use Rattle.std.specs.Prelude.{drop, map}
use Rattle.wat_print.specs.Prints.{Left}
use Rattle.wat_print_module.specs.Producers.{produced_view, field_form}
use Rattle.wat_print_module.proofs.producers.write_fields.Given as goal

abbrev pub invariant-loop-field : goal.invariant-loop-field
invariant-loop-field l =
    Left field_form (map produced_view (drop l.field-index l.fields))
    (map produced_view l.fields) l.fn.out l.out
