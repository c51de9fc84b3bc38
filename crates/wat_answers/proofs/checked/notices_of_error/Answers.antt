use Rattle.wat_answers.proofs.Found.{faults_of_masked}
use Rattle.wat_answers.proofs.checked.notices_of_error.Goals as goal

pub returns-in_ok-notices_of_first-in_default : goal.returns-in_ok-notices_of_first-in_default
returns-in_ok-notices_of_first-in_default c = faults_of_masked c.args.text.now c.args.extent c.args.read.now _ c.args.first c.requires.none c.in_default.not-Memory c.in_ok-notices_of_first-in_default.ensures
