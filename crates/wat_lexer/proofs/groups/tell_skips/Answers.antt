use Rattle.std.proofs.Common.{arith, ◌≡◌, ◌-◌, ◌∙◌, sym, refl, ap, is_ok}
use Rattle.std.proofs.ResultArms.{chosen}
use Rattle.wat_lexer.proofs.Closing.{popped, nothing_yet, pushed, passed_over, opened, ends_here, ends_never, hid_closed, hid_open, first_from}
use Rattle.wat_lexer.proofs.groups.tell_skips.Goals as goal

pub loop-i-init : goal.loop-i-init
loop-i-init c = rw (c.new-ends.ensures.items, c.len-i.ensures.value) (nothing_yet c.args.tokens.now)

pub loop-i-preserved-then-closes : goal.loop-i-preserved-then-closes
loop-i-preserved-then-closes c = rw (chosen _ _ _ _ c.push.ensures.items (ap is_ok c.in_ok-push.was)) (pushed _ c.loop-i.invariant (omega arith) (sym c.closes.ensures ∙ c.if-closes.true))

pub loop-i-preserved-then-not-opens : goal.loop-i-preserved-then-not-opens
loop-i-preserved-then-not-opens c = passed_over _ c.loop-i.invariant (omega arith) (cc) (cc)

pub loop-i-preserved-then-not-begins_hidden_group : goal.loop-i-preserved-then-not-begins_hidden_group
loop-i-preserved-then-not-begins_hidden_group c = opened _ c.loop-i.invariant (omega arith) (popped c.pop-end.ensures.items c.pop-end.ensures.variant (omega (arith, c.loop-i.ends.ok.0)) refl) (cc) (cc)

pub tell_skip-requires-clause-order : goal.tell_skip-requires-clause-order
tell_skip-requires-clause-order c = (ends_here (c.loop-i.i - 1) c.loop-i.invariant (omega arith) (popped c.pop-end.ensures.items c.pop-end.ensures.variant (omega (arith, c.loop-i.ends.ok.0)) c.in-Some.is)).0

pub tell_skip-requires-clause-within : goal.tell_skip-requires-clause-within
tell_skip-requires-clause-within c = (ends_here (c.loop-i.i - 1) c.loop-i.invariant (omega arith) (popped c.pop-end.ensures.items c.pop-end.ensures.variant (omega (arith, c.loop-i.ends.ok.0)) c.in-Some.is)).1

pub tell_skip-requires-clause-counts : goal.tell_skip-requires-clause-counts
tell_skip-requires-clause-counts c = (ends_here (c.loop-i.i - 1) c.loop-i.invariant (omega arith) (popped c.pop-end.ensures.items c.pop-end.ensures.variant (omega (arith, c.loop-i.ends.ok.0)) c.in-Some.is)).2

pub loop-i-preserved-in-Some : goal.loop-i-preserved-in-Some
loop-i-preserved-in-Some c = hid_closed _ c.loop-i.invariant (omega arith) _ (popped c.pop-end.ensures.items c.pop-end.ensures.variant (omega (arith, c.loop-i.ends.ok.0)) c.in-Some.is) (cc) c.tell_skip.ensures.same c.tell_skip.ensures.skips

pub tell_skip-requires-in-None-clause-counts : goal.tell_skip-requires-in-None-clause-counts
tell_skip-requires-in-None-clause-counts c = rw c.len-end.ensures.value (ends_never _ c.loop-i.invariant (omega arith) (popped c.pop-end.ensures.items c.pop-end.ensures.variant (omega (arith, c.loop-i.ends.ok.0)) c.in-None.is))

pub loop-i-preserved : goal.loop-i-preserved
loop-i-preserved c = rw c.offset.ensures (hid_open _ c.loop-i.invariant (omega arith) _ (popped c.pop-end.ensures.items c.pop-end.ensures.variant (omega (arith, c.loop-i.ends.ok.0)) c.in-None.is) (cc) (cc) c.tell_skip-in-None.ensures.same c.tell_skip-in-None.ensures.skips)

pub returns-clause-skips : goal.returns-clause-skips
returns-clause-skips c = let start : c.loop-i.i ≡ 0 = omega arith in rw start at c.loop-i.invariant.skips

pub returns-clause-first : goal.returns-clause-first
returns-clause-first c = let start : c.loop-i.i ≡ 0 = omega arith in first_from _ c.loop-i.first (rw start at c.loop-i.invariant.unclosed)
