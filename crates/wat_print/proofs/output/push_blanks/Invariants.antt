use Rattle.std.specs.Prelude.{◌≡◌, ◌++◌, ◌*◌, ◌-◌, string_bytes}
use Rattle.wat_print.specs.Layout.{blanks}
use Rattle.wat_print.proofs.output.push_blanks.Given as goal

-- the text with the blanks left to write is the final text
abbrev pub invariant-turns : goal.invariant-turns
invariant-turns l =
    string_bytes l.text ++ blanks (2 * (l.times - l.counter))
    ≡ string_bytes l.fn.text ++ blanks (2 * l.times)
