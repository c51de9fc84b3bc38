use Rattle.std.specs.Prelude.{◌≡◌}
use Rattle.wat.proofs.directory.Search.read.Given as goal

abbrev pub invariant-loop-entry : goal.invariant-loop-entry
invariant-loop-entry g l = l.self.wanted ≡ l.initial.self.wanted
