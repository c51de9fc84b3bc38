use Rattle.wat.proofs.Painting.{painted_more, painted_none}
use Rattle.wat.proofs.paint.painted.Goals as goal

pub loop-left-init : goal.loop-left-init
loop-left-init c = painted_none c.args.report.now c.new-out.result.items c.new-out.ensures.items

pub loop-left-preserved : goal.loop-left-preserved
loop-left-preserved c =
    painted_more _ _ _ _ _ _ _ c.split_at.ensures.front c.split_at.ensures.back c.in_ok-add_line.ensures c.loop-left.invariant
