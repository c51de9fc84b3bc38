use Rattle.std.specs.Prelude.{refl}
use Rattle.wat_core.proofs.Telling.{tells_good, tells_wrong}
use Rattle.wat_core.proofs.wrong_fields.check.Goals as goal

pub returns-in-None-clause-tells : goal.returns-in-None-clause-tells
returns-in-None-clause-tells g c =
    let is = rw (c.in-None.is, c.part.ensures) at c.in-Ok.ensures.told in
    λ gs told. tells_good c.args.group _ told is refl refl refl

pub returns-in_ok-keep-in-Some-clause-tells : goal.returns-in_ok-keep-in-Some-clause-tells
returns-in_ok-keep-in-Some-clause-tells g c =
    let is = rw (c.in-Some.is, c.part.ensures) at c.in-Ok.ensures.told in
    λ gs told. tells_wrong c.args.group _ told is.1 refl refl c.in_ok-keep-in-Some.ensures

pub keep-requires-clause-fault : goal.keep-requires-clause-fault
keep-requires-clause-fault g c =
    let is = rw c.in-Some.is at c.in-Ok.ensures.told in is.0
