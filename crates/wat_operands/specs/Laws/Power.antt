-- Laws: powers of two, and the test for a power of two.
use Rattle.std.proofs.Common.{count_ones, ◌≡◌, ℕ, zero, suc, ◌/◌, ◌%◌, ◌^◌, ◌≤◌, ◌==◌, true, false, refl, arith, ap, ◌∙◌}
use Rattle.std.specs.Int.Count.{ones, ones_step}
use Rattle.std.proofs.lemmas.Nat.{ones_le_self, zero_from_ones}
use Rattle.wat_types.specs.Prelude.{unsigned_Decides, is_power_of_two, doubles, apart, by_test}
use Rattle.wat_operands.specs.Power.{IsPowerOfTwo}

halves : (k : ℕ) → 2 ^ suc k / 2 ≡ 2 ^ k
halves k = omega (arith, doubles k)

twice : (n : ℕ) → n % 2 ≡ 0 → IsPowerOfTwo (n / 2) → IsPowerOfTwo n
twice n even p = (suc p.0, omega (arith, p.1, doubles p.0))

odd_of : (n : ℕ) → (n % 2 == 0) ≡ false → n % 2 ≡ 1
odd_of n t = omega (arith, apart (n % 2) 0 t)

one_bit : (d n : ℕ) → n ≤ d → count_ones n ≡ 1 → IsPowerOfTwo n
one_bit zero n h e = absurd (omega (arith, ones_le_self n))
one_bit (suc d) n h e =
    by_test (n % 2 == 0)
    (λ t.
    (let even : n % 2 ≡ 0 = (unsigned_Decides (n % 2) 0).0 t in
    let half : count_ones (n / 2) ≡ 1 = omega (arith, ones_step n, even) in
    twice n even (one_bit d (n / 2) (omega (arith, ones_le_self n)) half)))
    (λ t.
    (let odd : n % 2 ≡ 1 = odd_of n t in
    let half : n / 2 ≡ 0 = zero_from_ones (n / 2) (omega (arith, ones_step n, odd)) in
    (0, omega (arith, odd, half))))

bits_of_power : (k : ℕ) → count_ones (2 ^ k) ≡ 1
unfolding ones
bits_of_power zero = refl
bits_of_power (suc k) =
    let half : count_ones (2 ^ suc k / 2) ≡ count_ones (2 ^ k) = ap count_ones (halves k) in
    omega (arith, ones_step (2 ^ suc k), half, bits_of_power k, doubles k)

pub power_of_two-holds : (n : ℕ) → is_power_of_two n ≡ true → IsPowerOfTwo n
power_of_two-holds n e = one_bit n n (omega arith) ((unsigned_Decides (count_ones n) 1).0 e)

pub power_of_two-tested : (n : ℕ) → IsPowerOfTwo n → is_power_of_two n ≡ true
power_of_two-tested n p =
    (unsigned_Decides (count_ones n) 1).1 (ap count_ones p.1 ∙ bits_of_power p.0)
