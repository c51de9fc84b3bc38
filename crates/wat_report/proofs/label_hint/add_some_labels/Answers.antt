use Rattle.std.specs.Prelude.{flat_map}
use Rattle.std.proofs.lemmas.Result.{on_ok_weaker}
use Rattle.wat_report.specs.LabelHints.{id_words, next_label, some_labels}
use Rattle.wat_report.proofs.Added.{three_added}
use Rattle.wat_report.proofs.label_hint.add_some_labels.Goals as goal

pub returns : goal.returns
unfolding some_labels
returns c =
    rw (← c.labels_begin.ensures) (on_ok_weaker c.add_further_labels.result (three_added c.args.out.now.items c.labels_begin.result.now (id_words c.args.text.now c.args.first) (flat_map (next_label c.args.text.now) c.args.further.now) _ _ c.add_further_labels.new.out.items c.in_ok-add.ensures c.in_ok-add_id.ensures) c.add_further_labels.ensures)
