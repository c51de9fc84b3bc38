use Rattle.std.specs.Prelude.{◌≡◌, ◌++◌, take, map}
use Rattle.wat_scopes.specs.Steps.{acts}
use Rattle.wat_operands.specs.Handlers.{handle_view}
use Rattle.wat_instr_uses.specs.Steps.{handled_labels}
use Rattle.wat_instr_uses.proofs.steps.use_handled.Given as goal

abbrev pub invariant-loop-handler : goal.invariant-loop-handler
invariant-loop-handler l = acts l.out.items ≡ acts l.fn.out.items ++ handled_labels (map handle_view (take l.handler-index l.handlers))
