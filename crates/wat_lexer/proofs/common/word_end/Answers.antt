use Rattle.std.proofs.Common.{arith, sym, ◌∙◌}
use Rattle.wat_lexer.proofs.Commons.{word_front, word_stops}
use Rattle.wat_lexer.proofs.Steps.{run_idchar}
use Rattle.wat_lexer.proofs.common.word_end.Goals as goal

pub returns : goal.returns
returns c = record {
  within = (omega arith, c.plain_end-end.ensures.within.1);
  all = word_front c.args.at c.plain_end-end.result c.args.text.now (omega arith) c.plain_end-end.ensures.within.1 c.requires.first c.plain_end-end.ensures.all;
  run = run_idchar c.args.at c.args.text.now c.requires.place c.requires.first ∙ c.plain_end-end.ensures.run
      ∙ word_stops c.plain_end-end.result c.args.text.now c.plain_end-end.ensures.stops (sym c.is_at.ensures ∙ c.if-is_at.false);
}
