use Rattle.std.proofs.lemmas.Result.{on_ok_weaker}
use Rattle.wat_format.specs.Shapes.{gap_bytes}
use Rattle.wat_format.proofs.Gaps.{gap_separates}
use Rattle.wat_format.proofs.gap.put_blanks.Goals as goal

pub returns-then-fits : goal.returns-then-fits
returns-then-fits c =
    let gap = c.in-Some.gap in
    let fits = gap_separates c.args.last c.args.blanks.now gap.lines gap.spaces c.args.first c.is_empty.result c.is_empty.ensures (c.fits.ensures.follows c.if-fits.true) (c.fits.ensures.flag c.if-fits.true) in
    on_ok_weaker c.put_gap.result (λ e. (gap_bytes gap.lines gap.spaces, fits, e)) c.put_gap.ensures
