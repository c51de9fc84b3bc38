use Rattle.std.proofs.Common.{sym, ◌∙◌}
use Rattle.wat_expr.proofs.Instructions.{no_instruction, none_suited}
use Rattle.wat_expr.proofs.reader.take_suited.Goals as goal

pub returns-in-Err-clause-exact : goal.returns-in-Err-clause-exact
returns-in-Err-clause-exact c = λ i m r s. no_instruction _ c.in-Err.ensures.exact i m r

pub returns-then-suits-clause-exact : goal.returns-then-suits-clause-exact
returns-then-suits-clause-exact c = (c.in-Ok.ensures.exact, sym c.suits.ensures ∙ c.if-suits.true)

pub returns-else-suits-clause-exact : goal.returns-else-suits-clause-exact
returns-else-suits-clause-exact c = none_suited _ _ _ c.in-Ok.ensures.exact _ (sym c.suits.ensures ∙ c.if-suits.false)
