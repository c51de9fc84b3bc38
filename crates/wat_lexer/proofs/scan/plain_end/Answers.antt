use Rattle.std.proofs.Common.{arith, ◌-◌, ◌≡◌, ◌∙◌, sym, get_or, true}
use Rattle.wat_lexer.specs.Bytes.{is_idchar}
use Rattle.wat_lexer.proofs.Tables.{Below, idchar_at, idchars_to}
use Rattle.wat_lexer.proofs.scan.plain_end.Goals as goal

pub returns-clause-all : goal.returns-clause-all
returns-clause-all c =
    let text = c.args.text.now in
    let all : Below (λ k. is_idchar (get_or text k 0) ≡ true) c.args.from c.marked_end.result = λ k lt le. sym (idchar_at (get_or text k 0) (c.type_inv.text k).fits) ∙ c.marked_end.ensures.marked k lt le in
    (idchars_to (c.marked_end.result - c.args.from) c.args.from c.marked_end.result text (omega arith) c.marked_end.ensures.within.1 all).0

pub returns-clause-run : goal.returns-clause-run
returns-clause-run c =
    let text = c.args.text.now in
    let all : Below (λ k. is_idchar (get_or text k 0) ≡ true) c.args.from c.marked_end.result = λ k lt le. sym (idchar_at (get_or text k 0) (c.type_inv.text k).fits) ∙ c.marked_end.ensures.marked k lt le in
    (idchars_to (c.marked_end.result - c.args.from) c.args.from c.marked_end.result text (omega arith) c.marked_end.ensures.within.1 all).1

pub returns-clause-stops : goal.returns-clause-stops
returns-clause-stops c = λ lt. sym (idchar_at (get_or c.args.text.now c.marked_end.result 0) (c.type_inv.text c.marked_end.result).fits) ∙ c.marked_end.ensures.stops lt
