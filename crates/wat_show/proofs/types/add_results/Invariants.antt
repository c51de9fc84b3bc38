use Rattle.std.specs.Prelude.{◌≡◌, ◌++◌, take, map}
use Rattle.wat_show.specs.Types.{types_text}
use Rattle.wat_types.specs.Value.{val_view}
use Rattle.wat_show.proofs.types.add_results.Given as goal

abbrev pub invariant-loop-ty : goal.invariant-loop-ty
invariant-loop-ty l = l.out.items ≡ l.fn.out.items ++ types_text (map val_view (take l.ty-index l.results))
