use Rattle.std.specs.Prelude.{◌≡◌, ◌∷◌}
use Rattle.wat_expr.specs.OpenGroups.{InArm, AfterElse}
use Rattle.wat_expr.proofs.Turns.{else_wanted}
use Rattle.wat_expr.proofs.ReadTurns.{else_read}
use Rattle.wat_expr.proofs.reader.Reader.open_else.Goals as goal

pub returns-then-not-take_word-clause-turned : goal.returns-then-not-take_word-clause-turned
returns-then-not-take_word-clause-turned c = λ n. else_wanted _ _ _ _ _ c.requires.1 (c.if-not-take_word.ensures.exact.1)

pub returns-clause-turned : goal.returns-clause-turned
returns-clause-turned c =
    let e : c.enter.new.self ≡ AfterElse ∷ c.pop.new.self = c.in_ok-enter.ensures in
    let e2 : c.enter-2.new.self ≡ InArm ∷ c.enter.new.self = c.in_ok-enter-2.ensures in
    else_read _ _ _ _ _ _ _ _ _ _ _ _ c.in_default.is c.requires.1 c.if-not-take_word.ensures.exact c.in_ok-pop.ensures (cc) c.push.ensures
