use Rattle.std.proofs.Common.{◌≡◌, ◌∙◌, ap, arith, sym, refl, get_or, length, None, is_some}
use Rattle.std.proofs.lemmas.List.{get_or_read_under}
use Rattle.wat_show.proofs.Lines.{marks_set, marks_stay, marks_past}
use Rattle.wat_show.proofs.expressions.mark.Goals as goal

pub returns-then-index-len-clause-marks : goal.returns-then-index-len-clause-marks
returns-then-index-len-clause-marks c hs are = marks_past hs c.args.marks.now.items c.args.hint.now.instr_index c.args.hint.now.value (omega arith) are

pub returns-then-is_some-clause-marks : goal.returns-then-is_some-clause-marks
returns-then-is_some-clause-marks c hs are =
    let marks = c.args.marks.now.items in
    let index = c.args.hint.now.instr_index in
    let read : c.index.result.now ≡ get_or marks index None = get_or_read_under marks index (length marks) c.index.result.now None c.index.ensures (omega arith) refl in
    marks_stay hs marks index c.args.hint.now.value (ap is_some (sym read) ∙ sym c.is_some.ensures ∙ c.if-is_some.true) are

pub returns-clause-marks : goal.returns-clause-marks
returns-clause-marks c hs are =
    let marks = c.args.marks.now.items in
    let index = c.args.hint.now.instr_index in
    let read : c.index.result.now ≡ get_or marks index None = get_or_read_under marks index (length marks) c.index.result.now None c.index.ensures (omega arith) refl in
    marks_set hs marks index c.args.hint.now.value (omega arith) (ap is_some (sym read) ∙ sym c.is_some.ensures ∙ c.if-is_some.false) are
