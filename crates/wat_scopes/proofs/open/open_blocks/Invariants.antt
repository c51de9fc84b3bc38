use Rattle.std.proofs.Common.{◌≡◌, [], drop, reverse}
use Rattle.wat_scopes.specs.Steps.{acts}
use Rattle.wat_scopes.specs.OpenBlocks.{labels, open_labels}
use Rattle.wat_scopes.proofs.open.open_blocks.Given as goal

abbrev pub invariant-loop-step : goal.invariant-loop-step
invariant-loop-step l =
    open_labels [] (acts l.steps)
    ≡ open_labels (reverse (labels l.open.items)) (acts (drop l.step-index l.steps))
