use Rattle.std.proofs.Common.{◌++◌, List, take}
use Rattle.wat_scopes.specs.Spaces.{NameModel}
use Rattle.wat_scopes.specs.Known.{HasNames, names}
use Rattle.wat_scopes.proofs.known.add_aliases.Given as goal

abbrev pub invariant-loop-name : goal.invariant-loop-name
invariant-loop-name l = (ns : List NameModel) → HasNames l.fn.known ns → HasNames l.known (ns ++ names (take l.name-index l.aliases))
