use Rattle.std.specs.Prelude.{◌≡◌, ◌++◌, take, map}
use Rattle.wat_scopes.specs.Known.{names}
use Rattle.wat_operands.specs.Handlers.{handle_view}
use Rattle.wat_operand_uses.specs.Operands.{handles_uses}
use Rattle.wat_operand_uses.proofs.operands.add_handles.Given as goal

abbrev pub invariant-loop-handler : goal.invariant-loop-handler
invariant-loop-handler l = names l.out.items ≡ names l.fn.out.items ++ handles_uses (map handle_view (take l.handler-index l.handlers))
