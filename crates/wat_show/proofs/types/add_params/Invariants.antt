use Rattle.std.specs.Prelude.{◌≡◌, ◌++◌, take}
use Rattle.wat_show.specs.Types.{types_text, param_types}
use Rattle.wat_types.specs.Function.{params_view}
use Rattle.wat_show.proofs.types.add_params.Given as goal

abbrev pub invariant-loop-param : goal.invariant-loop-param
invariant-loop-param l = l.out.items ≡ l.fn.out.items ++ types_text (param_types (params_view (take l.param-index l.params)))
