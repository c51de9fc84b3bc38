use Rattle.std.specs.Prelude.{◌+◌, ◌-◌}
use Rattle.wat_lexer.specs.Token.{LParen}
use Rattle.wat_lexer.proofs.Entries.{word_no_paren}
use Rattle.wat_lexer.proofs.cut.put_word.Goals as goal

pub put-requires-clause-no_paren : goal.put-requires-clause-no_paren
put-requires-clause-no_paren c = rw c.read.ensures (word_no_paren c.args.kind c.args.text.now c.args.at (c.args.at + (c.args.end - c.args.at)) LParen c.requires.a_word)
