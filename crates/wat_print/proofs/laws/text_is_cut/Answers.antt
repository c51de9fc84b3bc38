use Rattle.std.specs.Prelude.{refl, false}
use Rattle.wat_print.specs.Laws.Prelude.{put, blank_page, well_formed_cut, well_formed_visible, puts_put}
use Rattle.wat_print.proofs.laws.text_is_cut.Goals as goal

pub returns-clause-cut : goal.returns-clause-cut
returns-clause-cut c ts n =
    let page = put (blank_page false) ts in
    well_formed_cut ts false page n (puts_put ts (blank_page false) page refl)

pub returns-clause-visible : goal.returns-clause-visible
returns-clause-visible c = well_formed_visible
