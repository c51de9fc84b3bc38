use Rattle.wat_lexer.specs.Laws.Fronts as fronts
use Rattle.wat_lexer.proofs.cut.one_cut.Goals as goal

pub returns : goal.returns
returns c = λ text ts us a b. fronts.one_cut a.0 b.0
