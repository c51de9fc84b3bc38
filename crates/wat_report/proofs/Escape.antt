-- One step of the walk along a string's escapes.
use Rattle.std.proofs.Common.{◌≡◌, ◌≢◌, ℕ, ◌+◌, ◌<◌, ◌≤◌, List, [], ◌∷◌, length, drop, get_or, refl, arith, get_or-drop, length-drop, ◌==◌, if◌then◌else◌}
use Rattle.wat_report.specs.Prelude.{escapes_len, ne_eqb}
use Rattle.wat_report.specs.Escapes.{is_escape}
use Rattle.wat_lexer.specs.Laws.Bytes.{at_front, at_front_two}

behind_two : (b c : ℕ) (t : List ℕ) → escapes_len (b ∷ c ∷ t) ≡ (if b == 92 then (if is_escape c (get_or t 0 0) then escapes_len t + 2 else 0) else if b == 34 then 0 else escapes_len (c ∷ t) + 1)
unfolding escapes_len
behind_two b c t = refl

pub escape_step : (i : ℕ) (s : List ℕ) → i + 1 < length s → escapes_len (drop i s) ≡ (if get_or s i 0 == 92 then (if is_escape (get_or s (i + 1) 0) (get_or s (i + 2) 0) then escapes_len (drop (i + 2) s) + 2 else 0) else if get_or s i 0 == 34 then 0 else escapes_len (drop (i + 1) s) + 1)
escape_step i s h =
    let e : i + 1 + 1 ≡ i + 2 = omega arith in
    let z : i + 2 + 0 ≡ i + 2 = omega arith in
    let third : get_or (drop (i + 2) s) 0 0 ≡ get_or s (i + 2) 0 = rw (get_or-drop (i + 2) s 0 0, z) refl in
    rw (at_front_two i s h, at_front (i + 1) s h, e, ← third) (behind_two (get_or s i 0) (get_or s (i + 1) 0) (drop (i + 2) s))

short : (t : List ℕ) → length t ≤ 1 → escapes_len t ≡ 0
unfolding escapes_len
short [] h = refl
short (a ∷ []) h = refl
short (a ∷ b ∷ t) h = absurd (omega arith)

pub escape_none : (i : ℕ) (s : List ℕ) → length s ≤ i + 1 → escapes_len (drop i s) ≡ 0
escape_none i s h = short (drop i s) (omega (arith, length-drop i s))

pub ruleset steps = (escape_step, escape_none)

pub plain_step : (i : ℕ) (s : List ℕ) → i + 1 < length s → get_or s i 0 ≢ 92 → get_or s i 0 ≢ 34 → escapes_len (drop i s) ≡ escapes_len (drop (i + 1) s) + 1
plain_step i s h a b = rw (escape_step i s h, ne_eqb (get_or s i 0) 92 a, ne_eqb (get_or s i 0) 34 b) refl
