-- Laws: powers of two and their exponents.
use Rattle.std.proofs.Common.{◌≡◌, ℕ, zero, suc, ◌*◌, ◌^◌, ◌<◌, ◌≤◌, ◌==◌, true, false, if◌then◌else◌, Option, Some, None, refl, ap, arith, sym, ◌∙◌, subst}
use Rattle.std.proofs.lemmas.Nat.{pow_pos}
use Rattle.wat_tokens.specs.Laws.Prelude.{pow_mono, unsigned_Decides, by_test, apart, doubles}
use Rattle.wat_types.specs.Exponent.{exponent_below, exponent, IsTwoTo}

pub equal : (m n : ℕ) → (m == n) ≡ true → m ≡ n
equal m n e = (unsigned_Decides m n).0 e

differ : (m n : ℕ) → m < n → ((m == n) ≡ false) × ((n == m) ≡ false)
differ m n e = (
  by_test (m == n) (λ k. absurd (let f : m ≡ n = equal m n k in omega (arith, e, f))) (λ k. k),
  by_test (n == m) (λ k. absurd (let f : n ≡ m = equal n m k in omega (arith, e, f))) (λ k. k),
)

by_order : (k m : ℕ) → k < suc m → (m == k) ≡ false → k < m
by_order k m less e = omega (arith, less, apart m k e)

-- k is below 2 to the k
grows : (k : ℕ) → k < 2 ^ k
grows zero = omega arith
grows (suc k) = omega (arith, grows k, doubles k)

none_below : (m n : ℕ) → 2 ^ m ≤ n → exponent_below m n ≡ None
none_below zero n e = refl
none_below (suc m) n e =
    let less : 2 ^ m < n = omega (arith, e, doubles m, pow_pos m) in
    rw ((differ (2 ^ m) n less).1) (none_below m n (omega (arith, less)))

-- k if n = 2 to the k, else None: the exponent of n if 2 ^ k ≤ n and n < 2 ^ (k + 1)
abbrev decided_by : ℕ → ℕ → Option ℕ
decided_by k n = if n == 2 ^ k then Some k else None

found_below : (m n k : ℕ) → k < m → 2 ^ k ≤ n → n < 2 * 2 ^ k → exponent_below m n ≡ decided_by k n
found_below zero n k less low high = absurd (omega (arith, less))
found_below (suc m) n k less low high =
    by_test (m == k)
    (λ e. subst (λ (j : ℕ). exponent_below (suc j) n ≡ decided_by k n) (sym (equal m k e))
    (rw (none_below k n low) refl))
    (λ e.
    (let near : k < m = by_order k m less e in
    let above : n < 2 ^ m = omega (arith, high, doubles k, pow_mono {i = suc k} {j = m} near) in
    rw ((differ n (2 ^ m) above).0) (found_below m n k near low high)))

pub exponent_is : (n k : ℕ) → 2 ^ k ≤ n → n < 2 * 2 ^ k → exponent n ≡ decided_by k n
unfolding exponent
exponent_is n k low high = found_below n n k (omega (arith, grows k, low)) low high

sound_below : (m n k : ℕ) → exponent_below m n ≡ Some k → IsTwoTo k n
sound_below zero n k e = absurd cc
sound_below (suc m) n k e =
    by_test (n == 2 ^ m)
    (λ t.
    (let f : Some m ≡ Some k = rw t at e in
    let g : m ≡ k = cc in
    equal n (2 ^ m) t ∙ ap (λ j. 2 ^ j) g))
    (λ t. sound_below m n k (rw t at e))

pub exponent_sound : (n k : ℕ) → exponent n ≡ Some k → IsTwoTo k n
unfolding exponent
exponent_sound n k e = sound_below n n k e

pub exponent_complete : (n k : ℕ) → IsTwoTo k n → exponent n ≡ Some k
exponent_complete n k e =
    let same : (n == 2 ^ k) ≡ true = (unsigned_Decides n (2 ^ k)).1 e in
    exponent_is n k (omega (arith, e)) (omega (arith, e, pow_pos k)) ∙ rw same refl
