-- The bytes written so far and the rest are the whole output, and no write failed. Each turn except the last makes
-- the rest shorter.
use Rattle.std.specs.Prelude.{◌≡◌, ◌↔◌, IsTrue, ℕ, List, ◌++◌, length}
use Rattle.std.specs.Io.KnownBytes.{Appends}
use Rattle.wat_show.proofs.output.write_all_of.Given as goal

abbrev pub invariant-loop-rest : goal.invariant-loop-rest
invariant-loop-rest g l = ((taken : List ℕ) × (l.out ≡ taken ++ l.rest) × Appends (g.W.Write.contents l.initial.writer.inner) (g.W.Write.contents l.writer.inner) taken)
    × (IsTrue l.writer.failed ↔ IsTrue l.initial.writer.failed)

abbrev pub decreases-loop-rest : goal.decreases-loop-rest
decreases-loop-rest g l = length l.rest
