use Rattle.std.proofs.Common.{arith, ◌-◌, ◌≡◌, ◌∙◌, sym, get_or, true}
use Rattle.wat_lexer.specs.Cut.{is_raw}
use Rattle.wat_lexer.proofs.Tables.{Below, raw_at, raw_to}
use Rattle.wat_lexer.proofs.string.raw_end.Goals as goal

pub returns-clause-same : goal.returns-clause-same
returns-clause-same c =
    let text = c.args.text.now in
    let all : Below (λ k. is_raw (get_or text k 0) ≡ true) c.args.from c.marked_end.result = λ k lt le. sym (raw_at (get_or text k 0) (c.type_inv.text k).fits) ∙ c.marked_end.ensures.marked k lt le in
    raw_to (c.marked_end.result - c.args.from) c.args.from c.marked_end.result text (omega arith) c.marked_end.ensures.within.1 all

pub returns-clause-stops : goal.returns-clause-stops
returns-clause-stops c = λ lt. sym (raw_at (get_or c.args.text.now c.marked_end.result 0) (c.type_inv.text c.marked_end.result).fits) ∙ c.marked_end.ensures.stops lt
