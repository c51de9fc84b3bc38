use Rattle.std.proofs.Common.{arith, ◌-◌, ◌≡◌, ◌∙◌, sym, get_or, true}
use Rattle.wat_lexer.specs.Bytes.{is_space}
use Rattle.wat_lexer.proofs.Tables.{Below, space_at, spaces_to, no_spaces}
use Rattle.wat_lexer.proofs.scan.spaces_end.Goals as goal

pub returns-clause-value : goal.returns-clause-value
returns-clause-value c =
    let text = c.args.text.now in
    let end = c.marked_end.result in
    let all : Below (λ k. is_space (get_or text k 0) ≡ true) c.args.from end = λ k lt le. sym (space_at (get_or text k 0) (c.type_inv.text k).fits) ∙ c.marked_end.ensures.marked k lt le in
    sym (spaces_to (end - c.args.from) c.args.from end text (omega arith) c.marked_end.ensures.within.1 all ∙ no_spaces end text (λ lt. sym (space_at (get_or text end 0) (c.type_inv.text end).fits) ∙ c.marked_end.ensures.stops lt))
