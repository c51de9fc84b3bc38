-- The decimal digits of a number: the last digit after the other digits.
use Rattle.std.proofs.Common.{rules, append_assoc, ℕ, List, [], ◌∷◌, ◌≡◌, ◌++◌, ◌+◌, ◌/◌, ◌%◌, ◌<◌, ◌≤◌, ◌^◌, decimal}
use Rattle.std.proofs.lemmas.Fmt.{decimal_step}

pub next_digit : (old mid new : List ℕ) (n : ℕ) → 10 ≤ n → n < 2 ^ 64 → mid ≡ old ++ decimal (n / 10)
    → new ≡ mid ++ (48 + n % 10) ∷ [] → new ≡ old ++ decimal n
next_digit old mid new n least small e f = search (rules, append_assoc, e, f, decimal_step n least small)
