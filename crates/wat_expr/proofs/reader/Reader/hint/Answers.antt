use Rattle.std.proofs.lemmas.Result.{err_from_is_err_and}
use Rattle.wat_expr.proofs.Turns.{hint_pending, hint_text, hint_value, hint_close, turn_hint}
use Rattle.wat_expr.proofs.reader.Reader.hint.Goals as goal

pub returns-in_err-bytes-clause-turned : goal.returns-in_err-bytes-clause-turned
returns-in_err-bytes-clause-turned c =
    let p = err_from_is_err_and c.from_residual.result c.from_residual.ensures.1 in
    rw p.1 (λ n. hint_text _ _ _ _ c.requires c.in_err-bytes.ensures.exact)

pub returns-in_default-clause-turned : goal.returns-in_default-clause-turned
returns-in_default-clause-turned c = λ n. hint_value _ _ _ _ c.requires _ _ c.in_ok-bytes.ensures.exact c.in_default.ensures

pub returns-in-Some-pending-clause-turned : goal.returns-in-Some-pending-clause-turned
returns-in-Some-pending-clause-turned c = λ n. hint_pending _ _ _ _ c.requires _ c.in-Some-pending.is

pub returns-then-not-take_close-clause-turned : goal.returns-then-not-take_close-clause-turned
returns-then-not-take_close-clause-turned c = λ n. hint_close _ _ _ _ c.requires _ _ c.in_ok-bytes.ensures.exact c.if-not-take_close.ensures.exact.1

pub returns-clause-turned : goal.returns-clause-turned
returns-clause-turned c = turn_hint _ _ _ _ _ _ _ _ c.requires c.in_default-pending.is c.in_ok-bytes.ensures.exact c.in-Some.ensures.1 c.if-not-take_close.ensures.exact c.in-Some.ensures.0
