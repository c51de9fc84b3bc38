use Rattle.wat.proofs.Painting.{middle_added, on_ok_then}
use Rattle.wat.proofs.paint.add_middle.Goals as goal

-- the part before the middle, the middle itself, and what comes after it
pub returns : goal.returns
returns c =
    on_ok_then c.add_styled-3.result (λ e. middle_added c.args.text.now c.split_at.result.0.now c.split_at-2.result.0.now c.split_at-2.result.1.now c.split_at.result.1.now c.args.out.now.items c.add_styled.new.out.items c.add_styled-2.new.out.items c.add_styled-3.new.out.items _ _ c.args.style c.split_at.ensures.front c.split_at.ensures.back c.split_at-2.ensures.front c.split_at-2.ensures.back c.in_ok-add_styled.ensures c.in_ok-add_styled-2.ensures e) c.add_styled-3.ensures
