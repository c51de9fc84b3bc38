-- Hints in rising order.
use Rattle.std.specs.Prelude.{ℕ, ◌+◌, ◌≤◌, List, [], ◌∷◌}

-- The indices of the hints are at least b, rise strictly, and are below e.
abbrev pub Rises : ℕ → List (ℕ × ℕ) → ℕ → Type 0
Rises b [] e = b ≤ e
Rises b (h ∷ hs) e = (b ≤ h.0) × Rises (h.0 + 1) hs e
