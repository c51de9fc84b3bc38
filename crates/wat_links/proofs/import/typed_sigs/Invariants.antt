use Rattle.std.specs.Prelude.{◌≡◌, take, map}
use Rattle.wat_links.proofs.import.typed_sigs.Given as goal

abbrev pub invariant-items : goal.invariant-items
invariant-items g l = map (λ r. r.now) l.sigs.items ≡ map (λ x. x.sig) (take l.item-index l.item-items)
