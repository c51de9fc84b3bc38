use Rattle.wat_expr.proofs.Instructions.{group_opens}
use Rattle.wat_expr.proofs.folded.turn.Goals as goal

pub returns-then-take_open-clause-turned : goal.returns-then-take_open-clause-turned
returns-then-take_open-clause-turned c = group_opens _ _ _ _ _ _ _ c.if-take_open.ensures.exact c.open_group.ensures.exact
