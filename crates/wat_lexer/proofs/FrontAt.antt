-- The blank or token in front, at an offset of the text.
use Rattle.std.proofs.Common.{◌≡◌, ℕ, ◌+◌, ◌-◌, ◌<◌, ◌≤◌, List, length, drop, get_or, refl, arith, drop-drop, length-drop, [], ◌∷◌, Bool, true, false, slice_range, ◌==◌, if◌then◌else◌}
use Rattle.wat_lexer.specs.Laws.Prelude.{nat_tests, is_space, begins, LParen, RParen, all_idchars, class, behind_run, behind_comment, behind_line, front, run_front, comment_front, tail, BlankTo, TokenTo, Wrong, RunEnd, Ends, Between, at_front, begins_at}
use Rattle.wat_lexer.specs.declared.fault.Fault.TheVariants.{LexChar}
use Rattle.wat_lexer.proofs.Plain.{plain_ascii}
use Rattle.wat_lexer.proofs.Steps.{run_quote, run_char, run_over, rest_is}

pub front_step : (behind : Bool) (i : ℕ) (s : List ℕ) → i < length s → front behind (drop i s) ≡
    (if is_space (get_or s i 0) then BlankTo (drop (i + 1) s)
    else (if get_or s i 0 == 40 then (if begins 59 (drop (i + 1) s) then comment_front (drop i s) (behind_comment 0 (tail (drop (i + 1) s))) else TokenTo LParen (drop (i + 1) s))
    else (if get_or s i 0 == 41 then TokenTo RParen (drop (i + 1) s)
    else (if get_or s i 0 == 59 then (if begins 59 (drop (i + 1) s) then BlankTo (behind_line (tail (drop (i + 1) s))) else Wrong LexChar (drop i s))
    else run_front behind (drop i s) (behind_run Between (drop i s))))))
unfolding front
front_step behind i s h = rw (at_front i s h)

tail_drop : (s : List ℕ) → tail s ≡ drop 1 s
tail_drop [] = refl
tail_drop (b ∷ s) = refl

pub tail_at : (i : ℕ) (s : List ℕ) → tail (drop (i + 1) s) ≡ drop (i + 2) s
tail_at i s = let e : i + 1 + 1 ≡ i + 2 = omega arith in rw (tail_drop (drop (i + 1) s), drop-drop 1 (i + 1) s, e)

pub ruleset front_steps = (front_step, begins_at, tail_at, nat_tests)

-- RUNS

pub run_token : (behind : Bool) (i end : ℕ) (s : List ℕ) (o : RunEnd) → i < end → end ≤ length s → o ≡ Ends (drop end s) → run_front behind (drop i s) o ≡ TokenTo (class behind (slice_range s i end)) (drop end s)
run_token behind i end s o h k e =
    let longer : (length (drop end s) == length (drop i s)) ≡ false = grind (arith, nat_tests, length-drop) in
    let size : length (drop i s) - length (drop end s) ≡ end - i = omega (arith, length-drop end s, length-drop i s) in
    rw (e, longer, size)

pub ruleset run_steps = (run_token, run_quote, run_char, run_over, rest_is, nat_tests)

pub run_first : (at quote : ℕ) (s : List ℕ) → at ≤ quote → quote < length s → get_or s quote 0 ≡ 34 → all_idchars (slice_range s at quote) ≡ true → get_or s at 0 < 128
run_first at quote s h k e all = grind (arith, plain_ascii)
