use Rattle.std.proofs.Common.{◌+◌, ◌-◌, ◌/◌, sym, ◌∙◌, arith}
use Rattle.std.proofs.lemmas.Map.Lookups.{exact_bytes}
use Rattle.wat_mnemonics.proofs.Halves.{lower_half, upper_half, one_more, few_left, few_made, probed_only, no_place}
use Rattle.wat_mnemonics.proofs.TableOrder.{entry_word}
use Rattle.wat_mnemonics.proofs.same_key.find_between.Goals as goal

pub halves-preserved-in-Less : goal.halves-preserved-in-Less
halves-preserved-in-Less c =
    record {
      left = omega (arith, c.halves-test.true);
      within = upper_half c.halves.base c.halves.size c.args.text.now c.halves-test.true c.halves.invariant.within (sym c.compared.ensures ∙ c.in-Less.is);
      only = probed_only c.args.parser.now c.halves.parser c.probe.new.self _ c.halves.invariant.only c.probe.ensures.only;
      counts = λ s p. c.probe.ensures.counts s (c.halves.invariant.counts s p);
      made = omega (arith, one_more c.halves.parser c.probe.new.self c.probe.ensures.only, c.halves.invariant.made);
      few = λ most f. few_left c.halves.size most c.halves.parser c.probe.new.self c.halves-test.true c.probe.ensures.only (c.halves.invariant.few most f);
    }

pub halves-preserved : goal.halves-preserved
halves-preserved c =
    record {
      left = omega (arith, c.halves-test.true);
      within = lower_half c.halves.base c.halves.size c.args.text.now c.halves-test.true c.halves.invariant.within (sym c.compared.ensures ∙ c.in-Greater.is);
      only = probed_only c.args.parser.now c.halves.parser c.probe.new.self _ c.halves.invariant.only c.probe.ensures.only;
      counts = λ s p. c.probe.ensures.counts s (c.halves.invariant.counts s p);
      made = omega (arith, one_more c.halves.parser c.probe.new.self c.probe.ensures.only, c.halves.invariant.made);
      few = λ most f. few_left c.halves.size most c.halves.parser c.probe.new.self c.halves-test.true c.probe.ensures.only (c.halves.invariant.few most f);
    }

pub returns-in-Equal-clause-found : goal.returns-in-Equal-clause-found
returns-in-Equal-clause-found c =
    entry_word (c.halves.base + c.halves.size / 2 - 1) _ (omega (arith, c.halves-test.true, c.halves.invariant.within.bound)) c.op_at.ensures ∙ exact_bytes _ _ (sym c.compared.ensures ∙ c.in-Equal.is)

pub returns-in-Equal-clause-probes : goal.returns-in-Equal-clause-probes
returns-in-Equal-clause-probes c = λ most f. few_made _ _ most (few_left c.halves.size most c.halves.parser c.probe.new.self c.halves-test.true c.probe.ensures.only (c.halves.invariant.few most f))

pub returns-clause-missing : goal.returns-clause-missing
returns-clause-missing c = no_place c.halves.base c.halves.size c.args.text.now c.halves-test.false c.halves.invariant.within

pub returns-clause-probes : goal.returns-clause-probes
returns-clause-probes c = λ most f. few_made _ _ most (c.halves.invariant.few most f)
