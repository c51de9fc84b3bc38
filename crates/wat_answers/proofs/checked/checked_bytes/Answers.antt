use Rattle.std.proofs.Common.{inr, refl}
use Rattle.wat_answers.specs.Checked.{ChecksBytes}
use Rattle.wat_answers.proofs.checked.checked_bytes.Goals as goal

pub returns-in_ok-one_notice-in-Err : goal.returns-in_ok-one_notice-in-Err
unfolding ChecksBytes
returns-in_ok-one_notice-in-Err c = inr ((c.in-Err.diagnostic, (rw c.in-Err.is at c.in_ok-text.ensures), c.in_ok-one_notice-in-Err.ensures), refl)
