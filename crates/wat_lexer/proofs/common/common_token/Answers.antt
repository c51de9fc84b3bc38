use Rattle.std.proofs.Common.{arith, sym, ◌∙◌}
use Rattle.wat_lexer.proofs.Commons.{keyword_piece, id_piece, integer_piece, string_piece, open_piece, close_piece}
use Rattle.wat_lexer.proofs.common.common_token.Goals as goal

pub returns-in_ok-end-clause-value : goal.returns-in_ok-end-clause-value
returns-in_ok-end-clause-value c = λ behind lie.
    let word = c.in_ok-word_end.ensures in
    rw c.in_ok-end.ensures.0 (keyword_piece behind lie c.args.at c.in_ok-word_end.field-0 c.args.text.now word.within.0 word.within.1 (sym c.if-is_ascii_lowercase.ensures.value) word.all word.run)

pub returns-else-end-at-clause-value : goal.returns-else-end-at-clause-value
returns-else-end-at-clause-value c = λ behind lie.
    let word = c.in_ok-word_end-2.ensures in
    rw c.in_ok-end-2.ensures.0 (id_piece behind lie c.args.at c.in_ok-word_end-2.field-0 c.args.text.now (omega (arith, word.within)) word.within.1 c.if-b-eq36.true word.all word.run)

pub returns-else-is_at-clause-value : goal.returns-else-is_at-clause-value
returns-else-is_at-clause-value c = λ behind lie. open_piece behind lie c.args.at c.args.text.now c.requires c.if-b-eq40.true (sym c.is_at.ensures ∙ c.if-is_at.false)

pub returns-then-b-eq41-clause-value : goal.returns-then-b-eq41-clause-value
returns-then-b-eq41-clause-value c = λ behind lie. close_piece behind lie c.args.at c.args.text.now c.requires c.if-b-eq41.true

pub returns-in_ok-end-3-clause-value : goal.returns-in_ok-end-3-clause-value
returns-in_ok-end-3-clause-value c = λ behind lie.
    let word = c.in_ok-integer_end.ensures.word in
    rw c.in_ok-end-3.ensures.0 (integer_piece behind lie c.args.at c.in_ok-integer_end.field-0 c.args.text.now word.within.0 word.within.1 c.in_ok-integer_end.ensures.integer word.all word.run)

pub returns-in_ok-end-4-clause-value : goal.returns-in_ok-end-4-clause-value
returns-in_ok-end-4-clause-value c = λ behind lie.
    let string = c.in_ok-plain_string_end.ensures in
    rw c.in_ok-end-4.ensures.0 (string_piece behind lie c.args.at c.in_ok-plain_string_end.field-0 c.args.text.now string.within.0 string.within.1 c.if-b-eq34.true string.content string.run)
