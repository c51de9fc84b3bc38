use Rattle.std.proofs.Common.{refl}
use Rattle.wat_answers.proofs.Found.{by_masked}
use Rattle.wat_answers.proofs.checked.notices_of_tokens.Goals as goal

pub returns-in-Some : goal.returns-in-Some
returns-in-Some c = by_masked c.args.text.now c.args.extent _ _ (λ found. found.0.items) (λ found. found.1) c.notices_of_masked.result (rw c.in-Some.is at c.in_ok-read.ensures.masked) c.as_str.ensures.value c.notices_of_masked.ensures

pub returns-in-None : goal.returns-in-None
returns-in-None c = by_masked c.args.text.now c.args.extent c.args.text.now c.args.text.now (λ found. found.0.items) (λ found. found.1) c.notices_of_cut.result (rw c.in-None.is at c.in_ok-read.ensures.masked) refl c.notices_of_cut.ensures
