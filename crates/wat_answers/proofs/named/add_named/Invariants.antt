use Rattle.std.specs.Prelude.{take}
use Rattle.wat_answers.specs.Checked.{AddsDiagnosed, IsNamed}
use Rattle.wat_answers.proofs.named.add_named.Given as goal

-- the diagnostics of the faults so far were added
abbrev pub invariant-loop-fault : goal.invariant-loop-fault
invariant-loop-fault l = AddsDiagnosed (IsNamed l.text l.names) (take l.fault-index l.faults) l.initial.notices.items l.notices.items
