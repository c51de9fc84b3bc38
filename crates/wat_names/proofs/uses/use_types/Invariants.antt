use Rattle.std.specs.Prelude.{◌≡◌, ◌++◌, take, flat_map}
use Rattle.wat_scopes.specs.Known.{names}
use Rattle.wat_types.specs.Define.{types_view}
use Rattle.wat_type_uses.specs.Types.{def_uses}
use Rattle.wat_names.proofs.uses.use_types.Given as goal

abbrev pub invariant-loop-ty : goal.invariant-loop-ty
invariant-loop-ty l = names l.out.items ≡ names l.fn.out.items ++ flat_map (λ t. def_uses t.def) (types_view (take l.ty-index l.types))
