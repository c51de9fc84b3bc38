use Rattle.wat_lexer.specs.View.{placed}
use Rattle.wat_tokens.proofs.parser.Parser.new.Goals as goal

pub returns-clause-fresh : goal.returns-clause-fresh
returns-clause-fresh c =
    let ls = c.in_ok-tokens.tokens in
    (placed ls, c.in_ok-tokens.ensures.found, c.over.ensures)
