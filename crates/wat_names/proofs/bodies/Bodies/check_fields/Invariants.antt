use Rattle.std.specs.Prelude.{◌≡◌, ◌++◌, take}
use Rattle.wat_core.specs.Prelude.{fields_view}
use Rattle.wat_scopes.specs.FaultModels.{faults_view}
use Rattle.wat_scopes.specs.Known.{names}
use Rattle.wat_names.specs.Bodies.{bodies_uses, expressions_faults, expressions_in}
use Rattle.wat_names.proofs.bodies.Bodies.check_fields.Given as goal

abbrev pub invariant-loop-at : goal.invariant-loop-at
invariant-loop-at l = record {
  faults : faults_view l.self.faults.items ≡ faults_view l.fn.self.faults.items ++ expressions_faults (expressions_in (fields_view (take l.at l.fields)));
  used : names l.self.used.items ≡ names l.fn.self.used.items ++ bodies_uses (fields_view (take l.at l.fields));
}
