use Rattle.std.specs.Prelude.{◌≡◌, drop}
use Rattle.wat_print.specs.Prelude.{param_label, none_labelled}
use Rattle.wat_types.specs.Function.{params_view}
use Rattle.wat_print.proofs.function.are_unlabelled.Given as goal

-- the parameters left decide the result
abbrev pub invariant-loop-param : goal.invariant-loop-param
invariant-loop-param l =
    none_labelled param_label (params_view (drop l.param-index l.params))
    ≡ none_labelled param_label (params_view l.params)
