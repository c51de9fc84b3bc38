-- Laws: one item of an import.
use Rattle.std.proofs.Common.{◌≤◌, arith, lit≤}
use Rattle.wat_links.specs.ImportItem.{typed_item, named_item}

pub typed_item_consumes : 1 ≤ typed_item.least
unfolding typed_item
typed_item_consumes = omega arith

pub named_item_consumes : 1 ≤ named_item.least
unfolding named_item
named_item_consumes = lit≤ tt
