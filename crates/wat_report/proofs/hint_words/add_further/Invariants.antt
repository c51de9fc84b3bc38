use Rattle.std.specs.Prelude.{◌≡◌, ◌++◌, take, flat_map}
use Rattle.wat_report.specs.HintWords.{next_quoted}
use Rattle.wat_report.proofs.hint_words.add_further.Given as goal

abbrev pub invariant-loop-one : goal.invariant-loop-one
invariant-loop-one g l = l.out.items ≡ l.initial.out.items ++ flat_map (next_quoted l.mark g.T.Spelled.spelling) (take l.one-index l.further)
