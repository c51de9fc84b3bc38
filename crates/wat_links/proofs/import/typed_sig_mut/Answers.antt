use Rattle.std.proofs.Common.{refl, sym, ap}
use mathlib.Core.Logic.{inl}
use Rattle.wat_links.specs.Lend.{with_item_sig}
use Rattle.wat_links.proofs.Lookups.{get_found, sig_found, sig_missing}
use Rattle.wat_links.proofs.import.typed_sig_mut.Goals as goal

pub returns-in-Some : goal.returns-in-Some
returns-in-Some g c = (
  ap (λ o. inl (c.item-in-Some-1.given, λ z. with_item_sig c.args.items.now c.args.i z o)) (sym (get_found c.args.items.now.items c.args.i c.in-Some.item c.in-Some.ensures.item)),
  record { writes_back = tt; value = sig_found c.args.items.now.items c.args.i c.in-Some.item c.in-Some.ensures.item },
)

pub returns-in-None : goal.returns-in-None
returns-in-None g c = (refl, record { writes_back = tt; value = sig_missing c.args.items.now.items c.args.i c.in-None.ensures.item })
