use Rattle.std.proofs.Common.{arith, ◌-◌}
use Rattle.wat_lexer.proofs.Plain.{plain_ascii}
use Rattle.wat_lexer.proofs.scan.run_end.Goals as goal

pub returns-clause-ascii : goal.returns-clause-ascii
returns-clause-ascii c = λ lt. plain_ascii c.args.from c.plain_end-end.result (c.plain_end-end.result - 1) c.args.text.now c.plain_end-end.ensures.within.1 c.plain_end-end.ensures.all (omega arith) (omega arith)
