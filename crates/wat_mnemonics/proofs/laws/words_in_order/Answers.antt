use Rattle.wat_mnemonics.proofs.TableOrder.{ops_in_order}
use Rattle.wat_mnemonics.proofs.laws.words_in_order.Goals as goal

pub returns : goal.returns
returns c = ops_in_order
