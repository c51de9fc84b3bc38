use Rattle.std.specs.Prelude.{◌≡◌, ◌++◌, take, flat_map}
use Rattle.wat_scopes.specs.Known.{names}
use Rattle.wat_types.specs.Define.{types_view}
use Rattle.wat_names.specs.Defined.{type_aliases}
use Rattle.wat_names.proofs.defined.alias_types.Given as goal

abbrev pub invariant-loop-ty : goal.invariant-loop-ty
invariant-loop-ty l = names l.out.items ≡ names l.fn.out.items ++ flat_map type_aliases (types_view (take l.ty-index l.types))
