use Rattle.wat_show.proofs.Showing.{no_value}
use Rattle.wat_show.proofs.value.show_value.Goals as goal

pub returns-in-Err : goal.returns-in-Err
returns-in-Err g c = no_value g.T.ListedValue.spelled g.T.ListedValue.listing c.args.text.now c.refused.result (λ made. made.0.items) (λ made. made.1) c.in-Err.error c.refused.ensures.fault c.refused.ensures.line c.refused.ensures.status (λ other v spells. other (c.in-Err.ensures.only v spells))
