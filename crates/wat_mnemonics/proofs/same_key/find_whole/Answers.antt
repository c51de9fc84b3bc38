use Rattle.std.proofs.Common.{◌+◌, ◌-◌, ◌/◌, sym, ◌∙◌, arith}
use Rattle.std.proofs.lemmas.Map.Lookups.{exact_bytes}
use Rattle.wat_mnemonics.proofs.Halves.{lower_half, upper_half, few_left}
use Rattle.wat_mnemonics.proofs.TableOrder.{entry_word}
use Rattle.wat_mnemonics.proofs.same_key.find_whole.Goals as goal

pub find_between-requires-clause-within : goal.find_between-requires-clause-within
find_between-requires-clause-within c =
    upper_half c.args.base c.args.size c.args.text.now c.requires.some c.requires.within (sym c.compared_whole.ensures ∙ c.in-Less.is)

pub find_between-requires-in-Greater-clause-within : goal.find_between-requires-in-Greater-clause-within
find_between-requires-in-Greater-clause-within c =
    lower_half c.args.base c.args.size c.args.text.now c.requires.some c.requires.within (sym c.compared_whole.ensures ∙ c.in-Greater.is)

pub returns-in-Less-clause-probes : goal.returns-in-Less-clause-probes
returns-in-Less-clause-probes c = λ most f. c.find_between.ensures.probes most (few_left c.args.size most c.args.parser.now c.probe.new.self c.requires.some c.probe.ensures.only f)

pub returns-in-Equal-clause-found : goal.returns-in-Equal-clause-found
returns-in-Equal-clause-found c =
    entry_word (c.args.base + c.args.size / 2 - 1) _ (omega (arith, c.requires.some, c.requires.within.bound)) c.op_at.ensures ∙ exact_bytes _ _ (sym c.compared_whole.ensures ∙ c.in-Equal.is)

pub returns-in-Greater-clause-probes : goal.returns-in-Greater-clause-probes
returns-in-Greater-clause-probes c = λ most f. c.find_between-in-Greater.ensures.probes most (few_left c.args.size most c.args.parser.now c.probe.new.self c.requires.some c.probe.ensures.only f)
