use Rattle.wat_instr.proofs.Firsts.{goes_before}
use Rattle.wat_instr.proofs.Standing.{instruction_stands}
use Rattle.wat_instr.proofs.Words.{it_may_follow}
use Rattle.wat_instr.proofs.laws.stands_before_what_may_follow.Goals as goal

pub returns-clause-stands : goal.returns-clause-stands
returns-clause-stands c = λ v d r s h f. instruction_stands v d r s h (it_may_follow s f)

pub returns-clause-follow : goal.returns-clause-follow
returns-clause-follow c = goes_before
