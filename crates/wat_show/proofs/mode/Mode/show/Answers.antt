use Rattle.wat_show.specs.Modes.{ShownText}
use Rattle.wat_show.proofs.Showing.{text_shown}
use Rattle.wat_show.proofs.mode.Mode.show.Goals as goal

pub returns : goal.returns
returns c = text_shown (ShownText c.args.self) c.args.bytes.now c.in-Ok.text.now c.show_in.result (λ made. made.0.items) (λ made. made.1) c.in-Ok.ensures.cases.0 c.in-Ok.ensures.cases.1 c.show_in.ensures
