use Rattle.std.proofs.Common.{arith}
use Rattle.wat_lexer.specs.Laws.Prelude.{common_steps, nat_tests}
use Rattle.wat_lexer.proofs.Whole.{class_by, quote_first}
use Rattle.wat_lexer.proofs.class.string_token.Goals.{else-behind-via-then-behind+else-first-eq64, else-behind-via-else-behind}
use Rattle.wat_lexer.proofs.class.string_token.Goals as goal

pub returns-then-quote-eq0 : goal.returns-then-quote-eq0
returns-then-quote-eq0 c = grind (arith, common_steps, nat_tests, class_by c.args.behind _ _ c.requires.prefix (quote_first _ _ c.requires.a_string))

pub returns-then-quote-gt1 : goal.returns-then-quote-gt1
returns-then-quote-gt1 c = grind (arith, common_steps, nat_tests, class_by c.args.behind _ _ c.requires.prefix (quote_first _ _ c.requires.a_string))

pub returns-in-Some : goal.returns-in-Some
returns-in-Some c = grind (arith, common_steps, nat_tests, class_by c.args.behind _ _ c.requires.prefix (quote_first _ _ c.requires.a_string))

pub returns-in-None : goal.returns-in-None
returns-in-None c = grind (arith, common_steps, nat_tests, class_by c.args.behind _ _ c.requires.prefix (quote_first _ _ c.requires.a_string))

pub returns-in-Some-text_name : goal.returns-in-Some-text_name
returns-in-Some-text_name c = grind (arith, common_steps, nat_tests, class_by c.args.behind _ _ c.requires.prefix (quote_first _ _ c.requires.a_string))

pub returns-in-None-text_name : goal.returns-in-None-text_name
returns-in-None-text_name c = grind (arith, common_steps, nat_tests, class_by c.args.behind _ _ c.requires.prefix (quote_first _ _ c.requires.a_string))

pub returns-else-behind : goal.returns-else-behind
returns-else-behind c =
    let same = class_by c.args.behind _ _ c.requires.prefix (quote_first _ _ c.requires.a_string) in
    elim c.else-behind.branch [ else-behind-via-then-behind+else-first-eq64 w ↦ grind (arith, common_steps, nat_tests, same) | else-behind-via-else-behind w ↦ grind (arith, common_steps, nat_tests, same) ]
