use Rattle.std.specs.Prelude.{◌≡◌, ◌++◌, take, flat_map}
use Rattle.wat_report.specs.LabelHints.{next_label}
use Rattle.wat_report.proofs.label_hint.add_further_labels.Given as goal

abbrev pub invariant-loop-label : goal.invariant-loop-label
invariant-loop-label l = l.out.items ≡ l.initial.out.items ++ flat_map (next_label l.text) (take l.label-index l.labels)
