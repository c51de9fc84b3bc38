use Rattle.std.proofs.Common.{inr}
use Rattle.wat_answers.specs.Formatted.{ReportsBytes}
use Rattle.wat_answers.proofs.formatted.bytes_formatted.Goals as goal

pub returns-in_ok-report_of_one-in-Err : goal.returns-in_ok-report_of_one-in-Err
unfolding ReportsBytes
returns-in_ok-report_of_one-in-Err c = inr (c.in-Err.diagnostic, (rw c.in-Err.is at c.in_ok-text.ensures), c.in_ok-report_of_one-in-Err.ensures)
