use Rattle.wat_mnemonics.proofs.Lent.{text_at}
use Rattle.wat_mnemonics.proofs.ScalarTables.{word_at}
use Rattle.wat_mnemonics.proofs.scalar.ScalarOp.word.Goals as goal

pub returns : goal.returns
returns c = rw text_at (word_at c.args.self)
