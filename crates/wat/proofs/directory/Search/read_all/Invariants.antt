use Rattle.std.specs.Prelude.{◌≡◌}
use Rattle.wat.proofs.directory.Search.read_all.Given as goal

abbrev pub invariant-loop : goal.invariant-loop
invariant-loop g l = l.self.wanted ≡ l.initial.self.wanted
