use Rattle.std.proofs.Common.{arith}
use Rattle.wat_report.proofs.Escape.{plain_step}
use Rattle.wat_report.proofs.escapes.escapes_end_from.Goals as goal

pub loop-end-preserved : goal.loop-end-preserved
loop-end-preserved c =
    let step = plain_step c.loop-end.end c.args.bytes.now c.loop-end-test.true c.if-bytes-end-eq92.false c.if-bytes-end-eq34.false in
    record {
      same = omega (arith, step, c.loop-end.invariant.same);
      within = omega (arith, c.loop-end-test.true);
    }
