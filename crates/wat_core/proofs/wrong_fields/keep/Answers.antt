use Rattle.std.proofs.Common.{arith}
use Rattle.wat_core.proofs.Telling.{kept_behind, dropped_behind}
use Rattle.wat_core.proofs.wrong_fields.keep.Goals as goal

pub returns-then-len-most : goal.returns-then-len-most
returns-then-len-most c = λ ws h. dropped_behind c.args.most ws c.args.faults.now.items c.args.group h (omega (arith, c.len.ensures))

pub returns : goal.returns
returns c = λ ws h. rw c.in_ok-push.ensures.items (kept_behind c.args.most ws c.args.faults.now.items c.args.group c.moved.result h (omega (arith, c.len.ensures)) c.moved.ensures)
