use Rattle.std.specs.Prelude.{drop, map}
use Rattle.wat_print_module.specs.Prelude.{Left, data_val_form}
use Rattle.wat_fields.specs.DataVal.{data_val_view}
use Rattle.wat_print_module.proofs.data_val.write_data_vals.Given as goal

abbrev pub invariant-loop-value : goal.invariant-loop-value
invariant-loop-value l =
    Left data_val_form (map data_val_view (drop l.value-index l.values))
    (map data_val_view l.values) l.fn.out l.out
