-- Diagnostics by the character that holds the offset.
use Rattle.std.proofs.Common.{◌≡◌, ℕ, List, subst, Ok, Err, IfOk, Option, Result}
use Rattle.wat_report.specs.Prelude.{Fault, IsDiagnostic, HasGroups, char_start}
use Rattle.wat_report.specs.Diagnostic.{IsFaultAt}
use Rattle.wat_report.specs.declared.diagnostic.Diagnostic.{Diagnostic}
use Rattle.wat_report.specs.declared.front.Groups.{Groups}

pub at_char : {E : Type 0} (text : List ℕ) (offset at : ℕ) (f : Fault) (groups : Option Groups) (r : Result Diagnostic E) → at ≡ char_start text offset → HasGroups text at groups → IfOk r (λ d. IsFaultAt text groups at f d) → IfOk r (λ d. IsDiagnostic text offset f d)
at_char text offset at f groups (Ok d) e has p = (
  groups,
  subst (λ (n : ℕ). HasGroups text n groups) e has,
  subst (λ (n : ℕ). IsFaultAt text groups n f d) e p,
)
at_char text offset at f groups (Err _) e has p = tt
