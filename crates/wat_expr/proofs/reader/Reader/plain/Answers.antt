use Rattle.wat_expr.proofs.ReadTurns.{no_plain_here, plain_read}
use Rattle.wat_expr.proofs.reader.Reader.plain.Goals as goal

pub returns-then-not-takes_plain-clause-turned : goal.returns-then-not-takes_plain-clause-turned
returns-then-not-takes_plain-clause-turned c = λ n. no_plain_here _ _ _ _ c.requires.no_end c.requires.no_group (λ a. absurd (c.if-not-takes_plain.ensures a))

pub returns-in-Err-clause-turned : goal.returns-in-Err-clause-turned
returns-in-Err-clause-turned c = λ n. no_plain_here _ _ _ _ c.requires.no_end c.requires.no_group (λ a. c.in-Err.ensures.exact)

pub returns-clause-turned : goal.returns-clause-turned
returns-clause-turned c =
    plain_read _ _ _ _ _ _ _ _ _ _ c.in-Ok.ensures.exact.0 c.in-Ok.ensures.exact.1 c.take-hint.ensures.after c.if-not-takes_plain.ensures
    (λ never. no_plain_here _ _ _ _ c.requires.no_end c.requires.no_group (λ a i m r s. never i m r))
    (rw c.take-hint.ensures.value at c.read.ensures.exact)
