use Rattle.wat_report.proofs.Nearby.{nearest_words_none}
use Rattle.wat_report.proofs.hint_words.add_nearest.Goals as goal

pub returns-in-None : goal.returns-in-None
returns-in-None g c = nearest_words_none c.args.mark.now g.T.Spelled.spelling c.args.found.now c.args.out.now.items c.in-None.ensures.cases
