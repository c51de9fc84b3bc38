use Rattle.std.proofs.Common.{◌≡◌, ◌++◌, [], drop, take}
use Rattle.wat_scopes.specs.Known.{HasNames, names}
use Rattle.wat_scopes.specs.NameFaults.{doubled_faults}
use Rattle.wat_scopes.proofs.known.define.Given as goal

abbrev pub invariant-loop-name : goal.invariant-loop-name
invariant-loop-name l = record {
  known : HasNames l.known (names (take l.name-index l.defined));
  faults : l.fn.out.items ++ doubled_faults [] l.defined ≡ l.out.items ++ doubled_faults (names (take l.name-index l.defined)) (drop l.name-index l.defined);
}
