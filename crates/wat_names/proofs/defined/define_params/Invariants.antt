use Rattle.std.specs.Prelude.{◌≡◌, ◌++◌, take}
use Rattle.wat_scopes.specs.Known.{names}
use Rattle.wat_core.specs.Prelude.{params_view}
use Rattle.wat_names.specs.Defined.{params_names}
use Rattle.wat_names.proofs.defined.define_params.Given as goal

abbrev pub invariant-loop-param : goal.invariant-loop-param
invariant-loop-param l = names l.out.items ≡ names l.fn.out.items ++ params_names l.at (params_view (take l.param-index l.params))
