use Rattle.std.specs.Prelude.{◌≡◌, take, flat_map}
use Rattle.wat_answers.specs.Notices.{notice_json}
use Rattle.wat_answers.proofs.notice.json_of.Given as goal

abbrev pub invariant-loop-notice : goal.invariant-loop-notice
invariant-loop-notice l = l.json.items ≡ flat_map (notice_json l.file) (take l.notice-index l.notices)
