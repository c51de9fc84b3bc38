use Rattle.std.proofs.Common.{rules, ◌∙◌, sym, ap}
use Rattle.wat_mnemonics.specs.Prelude.{some_of, State}
use Rattle.wat_mnemonics.proofs.WordReads.{reads_word}
use Rattle.wat_mnemonics.proofs.op.Op.take.Goals as goal

pub returns-in-Some-clause-reads : goal.returns-in-Some-clause-reads
returns-in-Some-clause-reads c = record {
  exact = reads_word c.args.parser.now.left c.in-Ok.word.now c.take_keyword.new.self.left c.in-Some.op c.in-Ok.ensures.reads.exact c.in-Some.ensures.found
      ∙ ap (λ (s : State). some_of (c.in-Some.op, s.left)) (sym c.find.ensures.only);
  counts = search rules;
  cost = search rules;
  settings = search rules;
}
