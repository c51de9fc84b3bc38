use Rattle.std.specs.Prelude.{◌≡◌, take, length, map}
use Rattle.wat_show.specs.Prelude.{hint_view, AreMarks}
use Rattle.wat_show.proofs.expressions.marks_of.Given as goal

abbrev pub invariant-loop-hint : goal.invariant-loop-hint
invariant-loop-hint l = (length l.marks.items ≡ l.count) × AreMarks (map hint_view (take l.hint-index l.hints)) l.marks.items
