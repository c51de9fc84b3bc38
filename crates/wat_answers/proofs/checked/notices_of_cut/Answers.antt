use Rattle.wat_answers.specs.Prelude.{module_view}
use Rattle.wat_answers.proofs.Found.{module_of_masked}
use Rattle.wat_answers.proofs.checked.notices_of_cut.Goals as goal

pub returns-in-Ok : goal.returns-in-Ok
returns-in-Ok c = module_of_masked c.args.text.now c.args.extent c.args.read.now (module_view c.in-Ok.«module») (λ found. found.0.items) (λ found. found.1) c.checked_module.result c.in-Ok.ensures.found c.checked_module.ensures
