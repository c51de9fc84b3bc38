use Rattle.wat_answers.specs.Checked.{IsDiagnosticOf}
use Rattle.wat_answers.proofs.Found.{adds_more}
use Rattle.wat_answers.proofs.checked.add_errors.Goals as goal

pub loop-error-preserved : goal.loop-error-preserved
loop-error-preserved c = adds_more (IsDiagnosticOf c.args.text.now) c.args.errors.now c.loop-error.error-index _ c.args.notices.now.items c.loop-error.notices.items _ c.loop-error-test.true c.loop-error.invariant c.in_ok-add_error.ensures
