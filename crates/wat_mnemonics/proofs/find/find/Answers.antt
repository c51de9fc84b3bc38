use Rattle.std.proofs.Common.{◌+◌, ◌-◌, ◌/◌, arith}
use Rattle.wat_mnemonics.proofs.Halves.{lower_half, upper_half, few_left, made_one, probed_only, no_place}
use Rattle.wat_mnemonics.proofs.KeyOrder.{key_less, key_greater}
use Rattle.wat_mnemonics.proofs.find.find.Goals as goal

pub returns-then-entry-key-clause-probes : goal.returns-then-entry-key-clause-probes
returns-then-entry-key-clause-probes c = c.find_whole.ensures.probes (c.args.parser.now.probes + 10) c.halves.invariant.few

pub halves-preserved-then-entry-key-2 : goal.halves-preserved-then-entry-key-2
halves-preserved-then-entry-key-2 c =
    record {
      left = omega (arith, c.halves-test.true);
      within = upper_half c.halves.base c.halves.size c.args.text.now c.halves-test.true c.halves.invariant.within
          (key_less (c.halves.base + c.halves.size / 2 - 1) (omega (arith, c.halves-test.true, c.halves.invariant.within.bound)) c.args.text.now (λ i. omega (arith, c.type_inv.text i)) (omega (arith, c.if-entry-key-2.true, c.key_of-key.ensures)));
      only = probed_only c.args.parser.now c.halves.parser c.probe.new.self _ c.halves.invariant.only c.probe.ensures.only;
      counts = λ s p. c.probe.ensures.counts s (c.halves.invariant.counts s p);
      some = made_one c.args.parser.now.probes c.halves.size _ c.halves.parser c.probe.new.self c.probe.ensures.only (omega (arith, c.halves.invariant.within.bound)) c.halves.invariant.some;
      few = few_left c.halves.size (c.args.parser.now.probes + 10) c.halves.parser c.probe.new.self c.halves-test.true c.probe.ensures.only c.halves.invariant.few;
    }

pub halves-preserved : goal.halves-preserved
halves-preserved c =
    record {
      left = omega (arith, c.halves-test.true);
      within = lower_half c.halves.base c.halves.size c.args.text.now c.halves-test.true c.halves.invariant.within
          (key_greater (c.halves.base + c.halves.size / 2 - 1) (omega (arith, c.halves-test.true, c.halves.invariant.within.bound)) c.args.text.now (λ i. omega (arith, c.type_inv.text i)) (omega (arith, c.if-entry-key.false, c.if-entry-key-2.false, c.key_of-key.ensures)));
      only = probed_only c.args.parser.now c.halves.parser c.probe.new.self _ c.halves.invariant.only c.probe.ensures.only;
      counts = λ s p. c.probe.ensures.counts s (c.halves.invariant.counts s p);
      some = made_one c.args.parser.now.probes c.halves.size _ c.halves.parser c.probe.new.self c.probe.ensures.only (omega (arith, c.halves.invariant.within.bound)) c.halves.invariant.some;
      few = few_left c.halves.size (c.args.parser.now.probes + 10) c.halves.parser c.probe.new.self c.halves-test.true c.probe.ensures.only c.halves.invariant.few;
    }

pub returns-clause-missing : goal.returns-clause-missing
returns-clause-missing c = no_place c.halves.base c.halves.size c.args.text.now c.halves-test.false c.halves.invariant.within
