use Rattle.wat_print.specs.Laws.Written.{blanks_turn}
use Rattle.wat_print.proofs.output.push_blanks.Goals as goal

pub turns-preserved : goal.turns-preserved
turns-preserved c =
    blanks_turn _ _ _ c.args.times c.turns.counter c.turns-test.true c.in_ok-push_str.ensures.bytes
    c.turns.invariant
