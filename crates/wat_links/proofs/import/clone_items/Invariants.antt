use Rattle.std.specs.Prelude.{◌≡◌, take, map}
use Rattle.wat_links.specs.Import.{typed_view, SameAll}
use Rattle.wat_links.proofs.import.clone_items.Given as goal

abbrev pub invariant-items : goal.invariant-items
invariant-items l = record {
  same : SameAll (take l.item-index l.item-items) l.copies.items;
  seen : map typed_view l.copies.items ≡ map typed_view (take l.item-index l.item-items);
}
