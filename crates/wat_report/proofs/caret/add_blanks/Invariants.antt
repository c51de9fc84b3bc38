use Rattle.std.specs.Prelude.{◌≡◌, ◌++◌, map}
use Rattle.wat_report.specs.Shown.{padding}
use Rattle.wat_report.proofs.caret.add_blanks.Given as goal

abbrev pub invariant-loop-c : goal.invariant-loop-c
invariant-loop-c l = l.out.items ≡ l.initial.out.items ++ map padding l.yielded
