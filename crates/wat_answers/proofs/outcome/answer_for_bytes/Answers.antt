use Rattle.std.proofs.Common.{inr, refl}
use Rattle.wat_answers.specs.Outcomes.{AnswersReadBytes}
use Rattle.wat_answers.proofs.outcome.answer_for_bytes.Goals as goal

pub returns-in_ok-report_of_one-in-Err : goal.returns-in_ok-report_of_one-in-Err
unfolding AnswersReadBytes
returns-in_ok-report_of_one-in-Err c = inr ((c.in-Err.diagnostic, (rw c.in-Err.is at c.in_ok-text.ensures), c.in_ok-report_of_one-in-Err.ensures), refl)
