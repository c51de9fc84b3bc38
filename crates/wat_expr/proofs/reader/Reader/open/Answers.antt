use Rattle.wat_expr.proofs.Turns.{too_many}
use Rattle.wat_expr.proofs.reader.Reader.open.Goals as goal

pub returns-in-Some-AfterElse-clause-turned : goal.returns-in-Some-AfterElse-clause-turned
returns-in-Some-AfterElse-clause-turned c =
    let e = rw c.in-Some-AfterElse.field-0-is at c.in-Some-AfterElse.ensures in λ n. too_many _ e.0 _ _ _ e.1
