use Rattle.wat_show.proofs.Added.{added_both}
use Rattle.wat_show.proofs.fields.add_global.Goals as goal

pub returns-in_ok-add-in-Inline : goal.returns-in_ok-add-in-Inline
returns-in_ok-add-in-Inline c = rw c.in-Inline.is (added_both c.add_below.result _ _ _ _ _ c.in_ok-add-in-Inline.ensures c.add_below.ensures)
