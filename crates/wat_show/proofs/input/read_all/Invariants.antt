-- The bytes are all bytes that the reader returned so far, and no read failed. Each turn except the last adds a byte.
use Rattle.std.specs.Prelude.{◌↔◌, IsTrue, ◌-◌, ◌^◌, vec_len}
use Rattle.std.specs.Io.KnownBytes.{Consumes}
use Rattle.wat_show.proofs.input.read_all.Given as goal

abbrev pub invariant-loop-bytes : goal.invariant-loop-bytes
invariant-loop-bytes g l = Consumes (g.R.Read.remaining l.initial.reader.inner) (g.R.Read.remaining l.reader.inner) l.bytes.items
    × (IsTrue l.reader.failed ↔ IsTrue l.initial.reader.failed)

abbrev pub decreases-loop-bytes : goal.decreases-loop-bytes
decreases-loop-bytes g l = 2 ^ 64 - vec_len l.bytes
