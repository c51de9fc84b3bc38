use Rattle.wat_answers.proofs.Answering.{answers_fault}
use Rattle.wat_core.specs.LexerPlace.{offset_of}
use Rattle.wat_answers.proofs.outcome.answer_for_text.Goals as goal

pub returns : goal.returns
returns c = answers_fault c.args.task c.args.name.now c.args.text.now c.in-Err.error.fault (offset_of c.in-Err.error.span) (λ output. output.0.items) (λ output. output.1) c.refused.result c.in-Err.ensures.none c.refused.ensures.fault c.refused.ensures.report c.refused.ensures.status
