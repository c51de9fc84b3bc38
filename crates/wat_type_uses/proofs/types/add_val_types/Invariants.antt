use Rattle.std.specs.Prelude.{◌≡◌, ◌++◌, take, map}
use Rattle.wat_scopes.specs.Known.{names}
use Rattle.wat_types.specs.Value.{val_view}
use Rattle.wat_type_uses.specs.Types.{vals_uses}
use Rattle.wat_type_uses.proofs.types.add_val_types.Given as goal

abbrev pub invariant-loop-ty : goal.invariant-loop-ty
invariant-loop-ty l = names l.out.items ≡ names l.fn.out.items ++ vals_uses (map val_view (take l.ty-index l.types))
