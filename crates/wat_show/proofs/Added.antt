-- Additions to an output.
use Rattle.std.proofs.Common.{◌≡◌, List, ℕ, ◌++◌, Result, Ok, Err, OnOk, ◌∙◌, ap, append_assoc}

-- two additions in sequence are one addition
pub added_both : {X E : Type 0} (r : Result X E) (old mid new a b : List ℕ)
    → mid ≡ old ++ a → OnOk r (new ≡ mid ++ b) → OnOk r (new ≡ old ++ (a ++ b))
added_both (Ok x) old mid new a b was adds =
    adds ∙ ap (λ (l : List ℕ). l ++ b) was ∙ append_assoc old a b
added_both (Err x) old mid new a b was adds = tt
