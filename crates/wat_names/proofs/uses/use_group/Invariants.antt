use Rattle.std.specs.Prelude.{◌≡◌, ◌++◌, take, map, flat_map}
use Rattle.wat_scopes.specs.Known.{names}
use Rattle.wat_links.specs.Import.{typed_view}
use Rattle.wat_names.specs.Used.{item_uses}
use Rattle.wat_names.proofs.uses.use_group.Given as goal

abbrev pub invariant-loop-item : goal.invariant-loop-item
invariant-loop-item l = names l.out.items ≡ names l.fn.out.items ++ flat_map (λ i. item_uses i.1) (map typed_view (take l.item-index l.items))
