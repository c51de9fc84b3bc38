use Rattle.std.proofs.Common.{arith, ◌≡◌, ◌+◌, ◌-◌, get_or, sym, ◌∙◌, true}
use Rattle.wat_lexer.specs.Cut.{is_hex}
use Rattle.wat_lexer.proofs.Commons.{hex_idchars, hex_integer, stops_here}
use Rattle.wat_lexer.proofs.Tables.{Below, hex_at, idchars_to}
use Rattle.wat_lexer.proofs.common.hex_end.Goals as goal

pub returns-clause-word : goal.returns-clause-word
returns-clause-word c =
    let text = c.args.text.now in
    let at = c.args.at in
    let end = c.marked_end-end.result in
    let digits : Below (λ k. is_hex (get_or text k 0) ≡ true) (at + 2) end = λ k lt le. sym (hex_at (get_or text k 0) (c.type_inv.text k).fits) ∙ c.marked_end-end.ensures.marked k lt le in
    let idchars = idchars_to (end - at) at end text (omega arith) c.marked_end-end.ensures.within.1 (hex_idchars at end text c.requires.zero c.requires.mark digits) in
    record {
      within = (omega arith, c.marked_end-end.ensures.within.1);
      all = idchars.0;
      run = idchars.1 ∙ stops_here end text (c.ends_run.ensures.ends c.if-not-ends_run.false);
    }

pub returns-clause-integer : goal.returns-clause-integer
returns-clause-integer c =
    let text = c.args.text.now in
    let at = c.args.at in
    let end = c.marked_end-end.result in
    let digits : Below (λ k. is_hex (get_or text k 0) ≡ true) (at + 2) end = λ k lt le. sym (hex_at (get_or text k 0) (c.type_inv.text k).fits) ∙ c.marked_end-end.ensures.marked k lt le in
    hex_integer at end text (omega arith) c.marked_end-end.ensures.within.1 c.requires.zero c.requires.mark digits
