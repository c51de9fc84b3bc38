use Rattle.wat_answers.proofs.Found.{finds_uncut}
use Rattle.wat_answers.proofs.checked.notices_of_uncut.Goals as goal

pub returns-in_ok-one_notice-in_default : goal.returns-in_ok-one_notice-in_default
returns-in_ok-one_notice-in_default c = finds_uncut c.args.text.now c.args.error c.in_ok-diagnostic-in_default.diagnostic _ c.in_default.not-Memory c.requires.first c.requires.uncut c.in_ok-diagnostic-in_default.ensures.found c.in_ok-diagnostic-in_default.ensures.none_expected c.in_ok-one_notice-in_default.ensures
