use Rattle.std.specs.Prelude.{◌≡◌, ◌++◌}
use Rattle.wat_report.specs.Shown.{carets}
use Rattle.wat_report.proofs.caret.add_carets.Given as goal

abbrev pub invariant-carets : goal.invariant-carets
invariant-carets l = l.out.items ≡ l.initial.out.items ++ carets l.counter
