use Rattle.std.proofs.Common.{ap, sym, ◌∙◌, length}
use Rattle.wat_format.specs.Prelude.{tokens_of, one_cut}
use Rattle.wat_format.proofs.Reading.{reads_cuts}
use Rattle.wat_format.proofs.OneReading as reading
use Rattle.wat_format.proofs.laws.one_reading.Goals as goal

pub returns-clause-one : goal.returns-clause-one
returns-clause-one c = λ text ps qs. reading.one_reading

pub returns-clause-read : goal.returns-clause-read
returns-clause-read c text ts k =
    let (ps, r) = reading.cuts_read k.0 in
    let (us, d, e) = reads_cuts (length text) r in
    (ps, r, sym e ∙ ap tokens_of (one_cut d k.0))
