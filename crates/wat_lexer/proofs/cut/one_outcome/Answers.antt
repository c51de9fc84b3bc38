use Rattle.wat_lexer.proofs.Outcomes.{one_fault, no_cut}
use Rattle.wat_lexer.proofs.cut.one_outcome.Goals as goal

pub returns-clause-fault : goal.returns-clause-fault
returns-clause-fault c = one_fault

pub returns-clause-no_cut : goal.returns-clause-no_cut
returns-clause-no_cut c = no_cut
