use Rattle.std.proofs.Common.{List, get_or, ap}
use Rattle.wat_mnemonics.specs.Order.{first}
use Rattle.wat_mnemonics.proofs.TableOrder.{ops_are}
use Rattle.wat_mnemonics.specs.declared.op.Op.{Op}
use Rattle.wat_mnemonics.proofs.same_key.op_at.Goals as goal

pub returns : goal.returns
returns c = ap (λ (l : List Op). get_or l c.args.index first) ops_are
