use Rattle.wat_operands.proofs.Fields.{past_front_is}
use Rattle.wat_operands.proofs.memory.past_front.Goals as goal

pub returns : goal.returns
returns c = past_front_is c.args.front.now c.args.text.now c.strip_prefix.result c.strip_prefix.ensures.cases
