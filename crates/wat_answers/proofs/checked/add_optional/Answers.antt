use Rattle.wat_answers.specs.Checked.{IsDiagnosticOf}
use Rattle.wat_answers.proofs.Found.{adds_none}
use Rattle.wat_answers.proofs.checked.add_optional.Goals as goal

pub returns-in-None : goal.returns-in-None
returns-in-None c = rw c.in-None.is (adds_none (IsDiagnosticOf c.args.text.now) c.args.notices.now.items)
