use Rattle.wat_print.specs.Laws.Nesting.{well_formed_cut}
use Rattle.wat_print.proofs.laws.lines_are_cut.Goals as goal

pub returns : goal.returns
returns c = well_formed_cut
