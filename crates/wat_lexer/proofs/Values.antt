-- The value of an integer, at an offset of the text.
use Rattle.std.proofs.Common.{◌≡◌, ℕ, ◌+◌, ◌*◌, ◌<◌, ◌≤◌, List, length, drop, get_or, refl, arith, Bool, true, false, ◌==◌, ◌&&◌, if◌then◌else◌, Option, Some, None, nat_lt}
use Rattle.wat_lexer.specs.Laws.Prelude.{digit_value, drop_of_length-le, nat_tests, read, up_to, at_front}
use Rattle.wat_lexer.specs.Laws.Strings.{read_up}

pub read_step : (base : ℕ) (behind : Bool) (n i : ℕ) (s : List ℕ) → i < length s → read base behind n (drop i s) ≡
    (if nat_lt (digit_value (get_or s i 0)) base then read base true (n * base + digit_value (get_or s i 0)) (drop (i + 1) s)
    else (if behind && (get_or s i 0 == 95) then read base false n (drop (i + 1) s) else None))
unfolding read
read_step base behind n i s h = rw (at_front i s h)

pub read_over : (base : ℕ) (behind : Bool) (n i : ℕ) (s : List ℕ) → length s ≤ i → read base behind n (drop i s) ≡ (if behind then Some n else None)
unfolding read
read_over base behind n i s h = rw (drop_of_length-le s h)

over_limit : (limit m : ℕ) (o : Option ℕ) → limit < m → ((k : ℕ) → o ≡ Some k → m ≤ k) → up_to limit o ≡ None
over_limit limit m None h up = refl
over_limit limit m (Some k) h up = grind (arith, nat_tests, up k refl)

-- a digit with which the value exceeds the limit
pub value_over : (base limit n i : ℕ) (behind : Bool) (s : List ℕ) → i < length s → digit_value (get_or s i 0) < base → 2 ≤ base → limit < n * base + digit_value (get_or s i 0) → up_to limit (read base behind n (drop i s)) ≡ None
value_over base limit n i behind s h d low gt =
    let m = n * base + digit_value (get_or s i 0) in
    let here : read base behind n (drop i s) ≡ read base true m (drop (i + 1) s) = grind (arith, nat_tests, read_step) in
    rw here (over_limit limit m (read base true m (drop (i + 1) s)) gt (λ k. read_up base (drop (i + 1) s) true m k (omega arith)))

pub ruleset value_steps = (read_step, read_over, value_over, nat_tests)
