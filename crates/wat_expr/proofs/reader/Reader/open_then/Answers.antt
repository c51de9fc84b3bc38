use Rattle.std.specs.Prelude.{refl}
use Rattle.wat_expr.proofs.Turns.{unpending}
use Rattle.wat_expr.proofs.ReadTurns.{then_read}
use Rattle.wat_expr.proofs.reader.Reader.open_then.Goals as goal

pub returns-in-Some : goal.returns-in-Some
returns-in-Some c = λ m n. unpending _ _ _ _ _ c.in-Some.is (λ _. refl)

pub returns : goal.returns
returns c =
    let r = c.requires in
    λ m. then_read _ _ _ _ _ _ _ _ _ _ m _ _ c.in_default.is r.3 c.in_ok-pop.ensures c.in_ok-enter.ensures c.enter-2.ensures
