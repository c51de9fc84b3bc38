use Rattle.std.proofs.Common.{rules, ◌≡◌, ℕ, ◌+◌, List, length, slice_range}
use Rattle.std.specs.Str.{chars}
use Rattle.std.proofs.lemmas.Str.{chars_from_encodes}
use Rattle.wat_report.specs.Positions.{begins_line, count_up_to, line_start, position_of_char}
use Rattle.wat_report.specs.declared.lines.LineColumn.{LineColumn}
use Rattle.wat_report.proofs.lines.position_of_char.Goals as goal

placed : (text piece : List ℕ) (at start line column : ℕ) → start ≡ line_start text at → line ≡ count_up_to (begins_line text) at → piece ≡ slice_range text start at → column ≡ length (chars piece) → ◌≡◌ {A = LineColumn} (record { line = line; column = column + 1 }) (position_of_char text at)
placed text piece at start line column s l p n = rw (n, p, l, s)

pub returns : goal.returns
returns c =
    let column : c.count-column.result ≡ length (chars c.range.result.now) = search (rules, chars_from_encodes) in
    placed c.args.text.now c.range.result.now c.args.at c.line_start-start.result _ _ c.line_start-start.ensures.value (rw c.as_bytes.ensures.value at c.line_number-line.ensures) c.range.ensures.value column
