use Rattle.std.specs.Prelude.{◌≡◌, ◌++◌, take, map}
use Rattle.wat_scopes.specs.Known.{names}
use Rattle.wat_tokens.specs.Prelude.{index_view}
use Rattle.wat_scopes.specs.Spaces.{space_view}
use Rattle.wat_type_uses.specs.Named.{by_indices}
use Rattle.wat_type_uses.proofs.collect.add_indices.Given as goal

abbrev pub invariant-loop-index : goal.invariant-loop-index
invariant-loop-index l = names l.out.items ≡ names l.fn.out.items ++ by_indices (space_view l.space) (map index_view (take l.index-index l.indices))
