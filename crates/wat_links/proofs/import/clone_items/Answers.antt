use Rattle.std.proofs.Common.{◌<◌, length, ap, arith}
use Rattle.std.proofs.lemmas.Result.{err_from_is_err_and}
use Rattle.wat_tokens.specs.Error.{Error}
use Rattle.wat_links.proofs.Same.{some_items}
use Rattle.wat_links.proofs.import.clone_items.Goals as goal

pub returns-in_err-push : goal.returns-in_err-push
returns-in_err-push c =
    let p = err_from_is_err_and c.from_residual-in_err-push.result c.from_residual-in_err-push.ensures.1 in
    let lt : c.items.item-index < length c.args.items.now.items = omega arith in
    record { copies = rw p.1 (record { same = tt; seen = tt; memory = (ap (λ (e : Error). e.fault) p.2, some_items c.args.items.now.items c.items.item-index lt) }) }
