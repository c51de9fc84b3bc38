use Rattle.std.specs.Prelude.{◌≡◌, take, flat_map}
use Rattle.wat_answers.specs.Notices.{notice_report}
use Rattle.wat_answers.proofs.notice.report_of.Given as goal

abbrev pub invariant-loop-notice : goal.invariant-loop-notice
invariant-loop-notice l = l.report.items ≡ flat_map (notice_report l.name) (take l.notice-index l.notices)
