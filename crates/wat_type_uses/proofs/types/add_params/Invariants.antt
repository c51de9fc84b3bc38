use Rattle.std.specs.Prelude.{◌≡◌, ◌++◌, take}
use Rattle.wat_scopes.specs.Known.{names}
use Rattle.wat_types.specs.Function.{params_view}
use Rattle.wat_type_uses.specs.Types.{params_uses}
use Rattle.wat_type_uses.proofs.types.add_params.Given as goal

abbrev pub invariant-loop-param : goal.invariant-loop-param
invariant-loop-param l = names l.out.items ≡ names l.fn.out.items ++ params_uses (params_view (take l.param-index l.params))
