use Rattle.std.specs.Prelude.{◌≡◌, ◌++◌, take, map}
use Rattle.wat_scopes.specs.Steps.{acts}
use Rattle.wat_instr.specs.Prelude.{instruction_view}
use Rattle.wat_instr_uses.specs.Steps.{steps_of}
use Rattle.wat_instr_uses.proofs.steps.add_steps.Given as goal

abbrev pub invariant-loop-at : goal.invariant-loop-at
invariant-loop-at l = acts l.out.items ≡ acts l.fn.out.items ++ steps_of (map instruction_view (take l.at l.instrs))
