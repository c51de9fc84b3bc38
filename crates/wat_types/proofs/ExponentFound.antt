-- The result of the search for an exponent.
use Rattle.std.proofs.Common.{◌≡◌, ◌≢◌, ℕ, ◌*◌, ◌^◌, ◌<◌, ◌≤◌, ◌==◌, None, refl, sym, ◌∙◌}
use Rattle.wat_types.specs.Prelude.{by_test, exponent}
use Rattle.wat_types.specs.Laws.Exponent.{equal, exponent_is}

pub exponent_of_other : (n k : ℕ) → 2 ^ k ≤ n → n < 2 * 2 ^ k → 2 ^ k ≢ n → exponent n ≡ None
exponent_of_other n k low high e =
    exponent_is n k low high ∙ by_test (n == 2 ^ k) (λ t. absurd (e (sym (equal n (2 ^ k) t)))) (λ t. rw t refl)

pub exponent_of_none : (n : ℕ) → n ≡ 0 → exponent n ≡ None
unfolding exponent
exponent_of_none n e = rw e refl
