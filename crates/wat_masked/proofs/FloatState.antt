-- Steps over bytes.
use Rattle.std.specs.Prelude.{◌≡◌, ℕ, ◌+◌, ◌<◌, ◌≤◌, List, length, drop, get_or, refl, Bool}
use Rattle.wat_masked.specs.Prelude.{drop_of_length-le, next, state_after}
use Rattle.wat_masked.specs.declared.float.FloatState.{FloatState}
use Rattle.wat_lexer.specs.Laws.Bytes.{at_front}

pub state_step : (hex : Bool) (p : FloatState) (i : ℕ) (x : List ℕ) → i < length x → state_after hex p (drop i x) ≡ state_after hex (next hex p (get_or x i 0)) (drop (i + 1) x)
unfolding state_after
state_step hex p i x h = rw (at_front i x h) refl

pub state_end : (hex : Bool) (p : FloatState) (i : ℕ) (x : List ℕ) → length x ≤ i → state_after hex p (drop i x) ≡ p
unfolding state_after
state_end hex p i x h = rw (drop_of_length-le x h) refl
