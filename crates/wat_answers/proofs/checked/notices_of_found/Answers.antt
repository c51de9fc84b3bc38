use Rattle.wat_answers.proofs.Found.{are_notices}
use Rattle.wat_answers.proofs.checked.notices_of_found.Goals as goal

pub returns : goal.returns
returns c = are_notices c.args.text.now c.args.first c.args.found.now _ _ _ _ _ _ _ _ _ c.as_slice-faults.ensures.value c.lead_of.ensures c.beside_of-beside.ensures c.saturating_sub.ensures c.new-notices.ensures.items c.in_ok-add_optional.ensures c.in_ok-add_errors.ensures c.in_ok-add_more.ensures c.in_ok-add_optional-2.ensures
