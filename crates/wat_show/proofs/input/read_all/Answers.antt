use Rattle.std.proofs.lemmas.Result.{err_from_is_err_and}
use Rattle.std.proofs.KnownBytes.{Consumes-trans}
use Rattle.wat_show.proofs.input.read_all.Goals as goal

-- the bytes so far, and the bytes of the last read
pub returns-in_err-extend_from_slice-in-Ok-clause-part : goal.returns-in_err-extend_from_slice-in-Ok-clause-part
returns-in_err-extend_from_slice-in-Ok-clause-part g c =
    let p = err_from_is_err_and c.from_residual.result c.from_residual.ensures.1 in
    rw (p.1) (_, Consumes-trans _ _ _ _ _ c.loop-bytes.invariant.0 c.in-Ok.ensures.bytes.0)
