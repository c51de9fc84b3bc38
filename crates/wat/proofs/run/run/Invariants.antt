use Rattle.std.specs.Prelude.{◌≡◌, ℕ, List, map, take}
use Rattle.wat.specs.Prelude.{string_bytes, Appends, AnswersNames}
use Rattle.wat.proofs.run.run.Given as goal

-- the answers for the names so far were written
abbrev pub invariant-loop-name : goal.invariant-loop-name
invariant-loop-name g l = (l.count ≡ l.name-index) × ((out : List ℕ) × AnswersNames g.J.Work.answers l.initial.work l.work (map string_bytes (take l.name-index l.names)) out l.worst
    × Appends (g.W.Write.contents l.initial.writer.inner) (g.W.Write.contents l.writer.inner) out)
