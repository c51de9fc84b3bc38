use Rattle.std.specs.Prelude.{codes}
use Rattle.std.proofs.lemmas.Result.{on_ok_weaker}
use Rattle.wat_report.specs.LabelHints.{id_words, labelled_block, line_words}
use Rattle.wat_report.proofs.Added.{three_added}
use Rattle.wat_report.proofs.label_hint.add_labelled_block.Goals as goal

pub returns : goal.returns
unfolding labelled_block
returns c = on_ok_weaker c.add_line_of.result (three_added c.args.out.now.items (codes "the block is ") (id_words c.args.text.now c.args.label) (line_words c.args.text.now (codes ", and begins in line ") c.args.span) _ _ c.add_line_of.new.out.items c.in_ok-add.ensures c.in_ok-add_id.ensures) c.add_line_of.ensures
