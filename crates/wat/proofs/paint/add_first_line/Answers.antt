use Rattle.wat.proofs.Painting.{on_ok_then, paints_more, split}
use Rattle.wat.proofs.paint.add_first_line.Goals as goal

-- the place, and then the message
pub returns : goal.returns
returns c =
    on_ok_then c.add_middle-2.result (λ message. paints_more c.split_at.result.0.now c.split_at.result.1.now c.args.line.now c.args.out.now.items c.add_middle.new.out.items c.add_middle-2.new.out.items (split c.args.line.now c.split_at.result.0.now c.split_at.result.1.now _ c.split_at.ensures.front c.split_at.ensures.back) c.in_ok-add_middle.ensures message) c.add_middle-2.ensures
