use Rattle.wat_masked.proofs.MaskedText.{same_size_masked}
use Rattle.wat_masked.proofs.masked.masked.Goals as goal

pub returns-in-Some-clause-size : goal.returns-in-Some-clause-size
returns-in-Some-clause-size c = same_size_masked c.args.text.now _ (rw c.in-Some.is at c.in_ok-changed-in-Ok.ensures.masked)
