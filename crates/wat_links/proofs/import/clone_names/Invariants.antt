use Rattle.std.specs.Prelude.{◌≡◌, take}
use Rattle.wat_links.proofs.import.clone_names.Given as goal

abbrev pub invariant-items : goal.invariant-items
invariant-items l = l.copies.items ≡ take l.item-index l.item-items
