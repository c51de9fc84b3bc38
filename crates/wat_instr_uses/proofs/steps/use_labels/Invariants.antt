use Rattle.std.specs.Prelude.{◌≡◌, ◌++◌, take, map}
use Rattle.wat_scopes.specs.Steps.{acts}
use Rattle.wat_tokens.specs.Prelude.{index_view}
use Rattle.wat_instr_uses.specs.Steps.{uses_labels}
use Rattle.wat_instr_uses.proofs.steps.use_labels.Given as goal

abbrev pub invariant-loop-label : goal.invariant-loop-label
invariant-loop-label l = acts l.out.items ≡ acts l.fn.out.items ++ uses_labels (map index_view (take l.label-index l.labels))
