use Rattle.std.proofs.Common.{[], ap, sym, ◌∙◌, drop}
use Rattle.wat_lexer.specs.Scan.{TokenTo}
use Rattle.wat_lexer.proofs.Entries.{word_nowhere, no_word}
use Rattle.wat_lexer.proofs.cut.next_piece.Goals as goal

pub put_word-requires-clause-fits : goal.put_word-requires-clause-fits
put_word-requires-clause-fits c = (rw c.in-Some.is at c.in-Ok.ensures.value).1

pub returns-in_ok-kind-in-Some-clause-value : goal.returns-in_ok-kind-in-Some-clause-value
returns-in_ok-kind-in-Some-clause-value c =
    let (front, fits, put) = rw c.in-Some.is at c.in-Ok.ensures.value in
    let none = word_nowhere c.in-Some.kind c.args.side_table.now.items c.front.new.side_table.items (sym c.is_word.ensures ∙ c.if-is_word.true) put in
    let (same, found, laid) = c.in_ok-kind-in-Some.ensures c.args.text.now c.in-Ok.piece.end in
    (front ∙ ap (λ t. TokenTo t (drop c.in-Ok.piece.end c.args.text.now)) same, found, rw none at laid)

pub returns-in_ok-kind-in-Some-clause-room : goal.returns-in_ok-kind-in-Some-clause-room
returns-in_ok-kind-in-Some-clause-room c = λ a_word. absurd (no_word c.in_ok-kind-in-Some.kind c.put_word.new.side_table.items c.args.at (c.in_ok-kind-in-Some.ensures [] 0).1 a_word)
