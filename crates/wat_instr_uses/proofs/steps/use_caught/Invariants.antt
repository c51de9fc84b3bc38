use Rattle.std.specs.Prelude.{◌≡◌, ◌++◌, take, map}
use Rattle.wat_scopes.specs.Steps.{acts}
use Rattle.wat_operands.specs.Catches.{catch_view}
use Rattle.wat_instr_uses.specs.Steps.{caught_labels}
use Rattle.wat_instr_uses.proofs.steps.use_caught.Given as goal

abbrev pub invariant-loop-clause : goal.invariant-loop-clause
invariant-loop-clause l = acts l.out.items ≡ acts l.fn.out.items ++ caught_labels (map catch_view (take l.clause-index l.catches))
