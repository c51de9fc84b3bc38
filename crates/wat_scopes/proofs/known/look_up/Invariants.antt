use Rattle.std.proofs.Common.{◌≡◌, ◌++◌, List, drop}
use Rattle.wat_scopes.specs.Spaces.{NameModel}
use Rattle.wat_scopes.specs.Known.{HasNames}
use Rattle.wat_scopes.specs.NameFaults.{unknown_faults}
use Rattle.wat_scopes.proofs.known.look_up.Given as goal

abbrev pub invariant-loop-name : goal.invariant-loop-name
invariant-loop-name l = (ns : List NameModel) → HasNames l.known ns → l.fn.out.items ++ unknown_faults ns l.used ≡ l.out.items ++ unknown_faults ns (drop l.name-index l.used)
