use Rattle.std.proofs.Common.{◌≡◌, [], drop}
use Rattle.wat_scopes.specs.Steps.{acts}
use Rattle.wat_scopes.specs.Blocks.{nests, runs, first_fault}
use Rattle.wat_scopes.specs.Frames.{IsKept, stack}
use Rattle.wat_scopes.proofs.blocks.first_block_fault.Given as goal

abbrev pub invariant-loop-step : goal.invariant-loop-step
invariant-loop-step l = record {
  kept : IsKept l.blocks;
  runs : nests (acts l.steps) ≡ runs (stack l.blocks) (acts (drop l.step-index l.steps));
  kind : first_fault [] (acts l.steps) ≡ first_fault (stack l.blocks) (acts (drop l.step-index l.steps));
}
