use Rattle.wat_report.proofs.Openings.{none_behind_text}
use Rattle.wat_report.proofs.hint.is_before_head.Goals as goal

pub returns-else-open-text : goal.returns-else-open-text
returns-else-open-text c = none_behind_text c.args.text.now c.past_word-open.result c.args.at c.past_word-open.ensures.value c.if-open-text.false
