-- One step of a count and of a search among the numbers up to one.
use Rattle.std.proofs.Common.{sub-one, ◌≡◌, ℕ, ◌+◌, ◌-◌, ◌<◌, zero, suc, refl, add-one, arith, Bool, true, false, if◌then◌else◌}
use Rattle.wat_report.specs.Positions.{count_up_to, last_up_to}

pub count_first : (test : ℕ → Bool) → test 0 ≡ true → 1 ≡ count_up_to test 0
unfolding count_up_to
count_first test h = rw h

pub count_more : (test : ℕ → Bool) (n : ℕ) → count_up_to test (n + 1) ≡ count_up_to test n + (if test (n + 1) then 1 else 0)
unfolding count_up_to
count_more test n = rw add-one

pub ruleset count_steps = (count_first, count_more)

pub last_first : (test : ℕ → Bool) (n : ℕ) → n ≡ 0 → last_up_to test n ≡ n
unfolding last_up_to
last_first test zero h = refl
last_first test (suc n) h = absurd (omega arith)

pub last_here : (test : ℕ → Bool) (n : ℕ) → test n ≡ true → last_up_to test n ≡ n
unfolding last_up_to
last_here test zero h = refl
last_here test (suc n) h = rw h

pub last_before : (test : ℕ → Bool) (n : ℕ) → 0 < n → test n ≡ false → last_up_to test n ≡ last_up_to test (n - 1)
unfolding last_up_to
last_before test zero l h = absurd (omega arith)
last_before test (suc n) l h = rw (h, sub-one)

pub ruleset last_steps = (last_first, last_here, last_before)
