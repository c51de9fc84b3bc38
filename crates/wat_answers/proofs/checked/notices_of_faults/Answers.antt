use Rattle.wat_answers.proofs.Found.{finds_faults}
use Rattle.wat_answers.proofs.checked.notices_of_faults.Goals as goal

pub returns-in-Ok : goal.returns-in-Ok
returns-in-Ok c = finds_faults c.args.text.now c.args.read.now c.args.first c.in-Ok.found (λ ns. ns.items) c.notices_of_found.result c.in-Ok.ensures.found c.notices_of_found.ensures
