use Rattle.wat_tokens.proofs.CountSteps.{takes_prefix}
use Rattle.wat_tokens.proofs.Exact.{reads_prefix, gives_memory}
use Rattle.wat_tokens.proofs.parser.Parser.parse.Goals as goal

pub returns-clause-reads : goal.returns-clause-reads
returns-clause-reads g c = reads_prefix g.T.Parse.view g.T.Parse.grammar c.parse.result c.args.self.now c.parse.new.parser c.parse.ensures.reads.exact

pub returns-clause-memory : goal.returns-clause-memory
returns-clause-memory g c = gives_memory g.T.Parse.view g.T.Parse.grammar c.parse.result c.args.self.now.left c.parse.new.parser.left c.parse.ensures.reads.exact

pub returns-clause-takes : goal.returns-clause-takes
returns-clause-takes g c = takes_prefix c.args.self.now c.parse.new.parser c.parse.ensures.reads.counts.0
