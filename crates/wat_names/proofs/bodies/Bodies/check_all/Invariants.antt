use Rattle.std.specs.Prelude.{◌≡◌, ◌++◌, take, map}
use Rattle.wat_core.specs.Prelude.{expression_view}
use Rattle.wat_scopes.specs.FaultModels.{faults_view}
use Rattle.wat_scopes.specs.Known.{names}
use Rattle.wat_names.specs.Bodies.{expressions_faults, expressions_uses}
use Rattle.wat_names.proofs.bodies.Bodies.check_all.Given as goal

abbrev pub invariant-loop-expression : goal.invariant-loop-expression
invariant-loop-expression l = record {
  faults : faults_view l.self.faults.items ≡ faults_view l.fn.self.faults.items ++ expressions_faults (map expression_view (take l.expression-index l.expressions));
  used : names l.self.used.items ≡ names l.fn.self.used.items ++ expressions_uses l.at (map expression_view (take l.expression-index l.expressions));
}
