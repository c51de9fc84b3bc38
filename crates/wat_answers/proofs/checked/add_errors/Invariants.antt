use Rattle.std.specs.Prelude.{take}
use Rattle.wat_answers.specs.Checked.{AddsDiagnosed, IsDiagnosticOf}
use Rattle.wat_answers.proofs.checked.add_errors.Given as goal

-- the diagnostics of the errors so far were added
abbrev pub invariant-loop-error : goal.invariant-loop-error
invariant-loop-error l = AddsDiagnosed (IsDiagnosticOf l.text) (take l.error-index l.errors) l.initial.notices.items l.notices.items
