use Rattle.std.proofs.Common.{sym, arith}
use Rattle.wat_mnemonics.proofs.KeyOrder.{key_less, key_greater}
use Rattle.wat_mnemonics.proofs.same_key.compared.Goals as goal

pub returns-then-entry-key-2 : goal.returns-then-entry-key-2
returns-then-entry-key-2 c =
    sym (key_less c.args.index c.requires.index c.args.text.now (λ i. omega (arith, c.type_inv.text i)) (omega (arith, c.if-entry-key-2.true, c.requires.key)))

pub returns-else-entry-key-2 : goal.returns-else-entry-key-2
returns-else-entry-key-2 c =
    sym (key_greater c.args.index c.requires.index c.args.text.now (λ i. omega (arith, c.type_inv.text i)) (omega (arith, c.if-entry-key.false, c.if-entry-key-2.false, c.requires.key)))
