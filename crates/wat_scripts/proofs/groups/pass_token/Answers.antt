use Rattle.wat_scripts.proofs.Fronts.{one_front, one_ready, one_fewer, one_less}
use Rattle.wat_scripts.proofs.groups.pass_token.Goals as goal

pub returns-clause-front : goal.returns-clause-front
returns-clause-front c = one_front c.pass_token.new.self c.requires c.pass_token.ensures.value

pub returns-clause-ready : goal.returns-clause-ready
returns-clause-ready c = one_ready c.pass_token.new.self c.requires c.pass_token.ensures.value

pub returns-clause-fewer : goal.returns-clause-fewer
returns-clause-fewer c = one_fewer c.args.parser.now c.pass_token.new.self c.pass_token.ensures.value

pub returns-clause-less : goal.returns-clause-less
returns-clause-less c = one_less c.pass_token.new.self c.requires c.pass_token.ensures.value
