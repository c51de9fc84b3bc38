-- An invariant of each step of a parse: earlier counts carry over, no turn and no height is
-- counted, and the settings don't change.
use Rattle.wat_tokens.specs.Counts.{Carries, Stays, SameSettings}
use Rattle.wat_tokens.specs.State.{State}

pub record Steady (a b : State) : Type 0 where
  pub counts : Carries a b
  pub stays : Stays a b
  pub settings : SameSettings a b
