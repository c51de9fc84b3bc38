use Rattle.std.proofs.Common.{arith, ◌-◌, ◌≡◌, ◌∙◌, sym, get_or, true}
use Rattle.wat_lexer.proofs.Tables.{Below, in_line, line_at, lines_to, no_line}
use Rattle.wat_lexer.proofs.scan.line_end.Goals as goal

pub returns-clause-value : goal.returns-clause-value
returns-clause-value c =
    let text = c.args.text.now in
    let end = c.marked_end.result in
    let all : Below (λ k. in_line (get_or text k 0) ≡ true) c.args.from end = λ k lt le. sym (line_at (get_or text k 0) (c.type_inv.text k).fits) ∙ c.marked_end.ensures.marked k lt le in
    sym (lines_to (end - c.args.from) c.args.from end text (omega arith) c.marked_end.ensures.within.1 all ∙ no_line end text (λ lt. sym (line_at (get_or text end 0) (c.type_inv.text end).fits) ∙ c.marked_end.ensures.stops lt))
