use Rattle.std.specs.Prelude.{codes}
use Rattle.std.proofs.lemmas.Result.{on_ok_weaker}
use Rattle.wat_report.specs.Found.{marked_text}
use Rattle.wat_report.specs.LabelHints.{line_words}
use Rattle.wat_report.specs.NameHints.{equal_words}
use Rattle.wat_report.proofs.Added.{three_added}
use Rattle.wat_report.proofs.name_hint.add_equal.Goals as goal

pub returns : goal.returns
unfolding equal_words
returns c = on_ok_weaker c.add_line_of.result (three_added c.args.out.now.items (codes "the first ") (marked_text c.args.text.now c.args.at) (line_words c.args.text.now (codes " is in line ") c.args.first) _ _ c.add_line_of.new.out.items c.in_ok-add.ensures c.in_ok-add_marked_text.ensures) c.add_line_of.ensures
