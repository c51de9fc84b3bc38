use Rattle.wat_print.specs.Laws.Given.{text_given}
use Rattle.wat_print.proofs.laws.text_is_given.Goals as goal

pub returns : goal.returns
returns c = text_given
