use Rattle.std.specs.Prelude.{drop, map}
use Rattle.wat_print.specs.Prelude.{param_view, param_form, Left}
use Rattle.wat_print.proofs.function.write_params.Given as goal

abbrev pub invariant-loop-param : goal.invariant-loop-param
invariant-loop-param l =
    Left param_form (map param_view (drop l.param-index l.params))
    (map param_view l.params) l.fn.out l.out
