use Rattle.std.proofs.Common.{arith, ℕ, List, ◌+◌, ◌-◌, get_or, refl, sym, ◌∙◌}
use Rattle.wat_lexer.proofs.Commons.{Digit, digit_idchar, digits_integer, stops_here}
use Rattle.wat_lexer.proofs.Tables.{Below, below_none, below_more, below_joined, digit_at, idchars_to}
use Rattle.wat_lexer.proofs.common.decimal_end.Goals as goal

digits : (at end : ℕ) (s : List ℕ) → Digit s at → Below (Digit s) (at + 1) end → Below (Digit s) at end
digits at end s first rest = below_joined (Digit s) at (at + 1) end (below_more (Digit s) at at (at + 1) refl (below_none (Digit s) at) first) rest

pub returns-clause-word : goal.returns-clause-word
returns-clause-word c =
    let text = c.args.text.now in
    let all = digits c.args.at c.marked_end-end.result text c.requires.first (λ k lt le. sym (digit_at (get_or text k 0) (c.type_inv.text k).fits) ∙ c.marked_end-end.ensures.marked k lt le) in
    let idchars = idchars_to (c.marked_end-end.result - c.args.at) c.args.at c.marked_end-end.result text (omega arith) c.marked_end-end.ensures.within.1 (λ k lt le. digit_idchar (get_or text k 0) (all k lt le)) in
    record {
      within = (omega arith, c.marked_end-end.ensures.within.1);
      all = idchars.0;
      run = idchars.1 ∙ stops_here c.marked_end-end.result text (c.ends_run.ensures.ends c.if-not-ends_run.false);
    }

pub returns-clause-integer : goal.returns-clause-integer
returns-clause-integer c =
    let text = c.args.text.now in
    let all = digits c.args.at c.marked_end-end.result text c.requires.first (λ k lt le. sym (digit_at (get_or text k 0) (c.type_inv.text k).fits) ∙ c.marked_end-end.ensures.marked k lt le) in
    digits_integer c.args.at c.marked_end-end.result text (omega arith) c.marked_end-end.ensures.within.1 all
