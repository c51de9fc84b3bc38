use Rattle.std.proofs.Common.{arith, sym, length-drop}
use Rattle.wat_lexer.proofs.Entries.{skip_few}
use Rattle.wat_lexer.proofs.hidden.skip_in_front.Goals as goal

pub returns-else-at-count : goal.returns-else-at-count
returns-else-at-count c = sym (skip_few c.args.known _ (omega (arith, length-drop c.args.at c.args.tokens.now)))
