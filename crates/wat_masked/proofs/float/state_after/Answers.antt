use Rattle.std.proofs.Common.{◌+◌, sym, ◌∙◌, ap, arith, drop}
use Rattle.wat_masked.specs.Float.{state_after}
use Rattle.wat_masked.proofs.FloatState.{state_step, state_end}
use Rattle.wat_masked.proofs.float.state_after.Goals as goal

pub loop-i-preserved : goal.loop-i-preserved
loop-i-preserved c = record {
  within = omega arith;
  same = ap (λ p. state_after c.args.hex p (drop (c.loop-i.i + 1) c.args.x.now)) c.next-state.ensures ∙ sym (state_step c.args.hex c.loop-i.state c.loop-i.i c.args.x.now c.loop-i-test.true) ∙ c.loop-i.invariant.same;
}

pub returns : goal.returns
returns c = sym (state_end c.args.hex c.loop-i.state c.loop-i.i c.args.x.now c.loop-i-test.false) ∙ c.loop-i.invariant.same
