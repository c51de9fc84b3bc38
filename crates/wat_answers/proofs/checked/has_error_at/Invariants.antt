use Rattle.std.specs.Prelude.{◌≡◌, drop}
use Rattle.wat_answers.specs.Checked.{has_error_at}
use Rattle.wat_answers.proofs.checked.has_error_at.Given as goal

-- the errors left decide the result
abbrev pub invariant-loop-error : goal.invariant-loop-error
invariant-loop-error l = has_error_at l.errors l.offset ≡ has_error_at (drop l.error-index l.errors) l.offset
