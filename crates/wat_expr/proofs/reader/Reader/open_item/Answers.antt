use Rattle.std.proofs.Common.{refl, sym, ◌∙◌}
use Rattle.wat_expr.proofs.Instructions.{none_whole}
use Rattle.wat_expr.proofs.Turns.{no_item}
use Rattle.wat_expr.proofs.ReadTurns.{block_read, group_read}
use Rattle.wat_expr.proofs.reader.Reader.open_item.Goals as goal

pub returns-in-Err-clause-turned : goal.returns-in-Err-clause-turned
returns-in-Err-clause-turned c = rw c.refuse.ensures (λ n. no_item _ _ _ _ c.requires.place c.if-take_hint_name.ensures.exact.1 c.requires.no_then (rw c.if-take_hint_name.ensures.exact.0 at c.in-Err.ensures.exact))

pub returns-in-Err-read-clause-turned : goal.returns-in-Err-read-clause-turned
returns-in-Err-read-clause-turned c = rw c.refuse-in-Err-read.ensures (λ n.
    no_item _ _ _ _ c.requires.place c.if-take_hint_name.ensures.exact.1 c.requires.no_then (λ i m r s. none_whole _ _ _ (rw c.if-take_hint_name.ensures.exact.0 at c.in-Ok.ensures.exact.0) (c.in-Err-read.ensures.exact n) i m r))

pub returns-in-Ok-read-clause-turned : goal.returns-in-Ok-read-clause-turned
returns-in-Ok-read-clause-turned c =
    let x = rw c.take-hint.ensures.value at c.in-Ok-read.ensures.exact in
    block_read _ _ _ _ _ _ _ _ _ _ (rw c.if-take_hint_name.ensures.exact.0 at c.in-Ok.ensures.exact.0) c.in-Ok.ensures.exact.1 c.take-hint.ensures.after x.0 _ c.requires.place (sym c.is_block.ensures ∙ c.if-is_block.true) x.1 x.2 c.enter.ensures

pub returns-clause-turned : goal.returns-clause-turned
returns-clause-turned c =
    group_read _ _ _ _ _ _ _ _ _ _ (rw c.if-take_hint_name.ensures.exact.0 at c.in-Ok.ensures.exact.0) c.in-Ok.ensures.exact.1 c.take-hint.ensures.after _ _ c.requires.place (sym c.is_block.ensures ∙ c.if-is_block.false) c.take-hint.ensures.value refl
    (λ never. no_item _ _ _ _ c.requires.place c.if-take_hint_name.ensures.exact.1 c.requires.no_then (λ i m r s. never i m r))
    (rw c.holder.ensures at c.hold.ensures.exact)
