use Rattle.wat_tokens.proofs.CountSteps.{carries_step}
use Rattle.wat_tokens.proofs.parser.Parser.step.Goals as goal

pub returns-clause-counts : goal.returns-clause-counts
returns-clause-counts c = carries_step c.args.self.now c.advance.new.self c.requires c.advance.ensures.left c.advance.ensures.taken c.advance.ensures.quiet c.advance.ensures.settings.0 c.advance.ensures.position
