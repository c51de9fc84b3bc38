use Rattle.std.proofs.Common.{◌+◌, ◌-◌, sym, ◌∙◌, slice_range}
use Rattle.wat_lexer.proofs.Commons.{plain_content, plain_string_run, stops_here}
use Rattle.wat_lexer.proofs.common.plain_string_end.Goals as goal

pub returns-clause-content : goal.returns-clause-content
returns-clause-content c = plain_content (c.args.at + 1) c.raw_end-quote.result c.args.text.now (sym c.is_at.ensures ∙ c.if-not-is_at.false) c.raw_end-quote.ensures.same

pub returns-clause-run : goal.returns-clause-run
returns-clause-run c =
    let text = c.args.text.now in
    let quote = c.raw_end-quote.result in
    plain_string_run c.args.at (quote + 1) (slice_range text (c.args.at + 1) (quote + 1 - 1)) text c.requires.place c.requires.quote (plain_content (c.args.at + 1) quote text (sym c.is_at.ensures ∙ c.if-not-is_at.false) c.raw_end-quote.ensures.same)
    ∙ stops_here (quote + 1) text (c.ends_run.ensures.ends c.if-not-ends_run.false)
