use Rattle.wat_answers.specs.Checked.{IsNamed}
use Rattle.wat_answers.proofs.Found.{adds_more}
use Rattle.wat_answers.proofs.named.add_named.Goals as goal

pub loop-fault-preserved : goal.loop-fault-preserved
loop-fault-preserved c = adds_more (IsNamed c.args.text.now c.args.names.now) c.args.faults.now c.loop-fault.fault-index _ c.args.notices.now.items c.loop-fault.notices.items _ c.loop-fault-test.true c.loop-fault.invariant (c.in_ok-diagnostic.diagnostic, c.in_ok-diagnostic.ensures, c.in_ok-push.ensures.items)
