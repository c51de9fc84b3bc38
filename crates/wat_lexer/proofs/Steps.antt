-- One step of each scan, at an offset of the text.
use Rattle.std.proofs.Common.{◌≡◌, ℕ, ◌+◌, ◌-◌, ◌<◌, ◌≤◌, List, [], ◌∷◌, length, drop, get_or, refl, arith, append_assoc, append-nil, get_or-drop, length-drop, ◌==◌, ◌&&◌, ◌*◌, ◌++◌, if◌then◌else◌, true, false, Option, None, Some, nat_lt, option_map, slice_range}
use Rattle.wat_lexer.specs.Laws.Prelude.{digit_value, drop_of_length-le, nat_tests, take_more, is_raw, is_hex, short_escape, is_idchar, is_space, is_line_end, behind_line, behind_spaces, behind_run, all_idchars, behind_comment, step, emitted, string_at, after_step, with_front, rest_at, Step, Bad, Close, Into, Emit, Encode, Between, Ends, Mode, Raw, Escape, Byte, Brace, Digits, excluded, at_front, at_front_two, idchar_ascii}
use Rattle.wat_lexer.specs.Scan.{closing}
use Rattle.wat_lexer.specs.Laws.Pieces.{run_cons, then_run, rest_front}
use lib.Utf8.{scalar}

pub comment_step : (depth i : ℕ) (s : List ℕ) → i + 1 < length s →
    behind_comment depth (drop i s) ≡
    (if (get_or s i 0 == 40) && (get_or s (i + 1) 0 == 59) then behind_comment (depth + 1) (drop (i + 2) s)
    else (if (get_or s i 0 == 59) && (get_or s (i + 1) 0 == 41) then (if depth == 0 then Some (drop (i + 2) s) else behind_comment (depth - 1) (drop (i + 2) s))
    else behind_comment depth (drop (i + 1) s)))
unfolding behind_comment
comment_step depth i s h =
    let e : i + 1 + 1 ≡ i + 2 = omega arith in rw (at_front_two i s h, at_front (i + 1) s h, e)

comment_short : (depth : ℕ) (t : List ℕ) → length t ≤ 1 → behind_comment depth t ≡ None
unfolding behind_comment
comment_short depth [] h = refl
comment_short depth (a ∷ []) h = refl
comment_short depth (a ∷ b ∷ t) h = absurd (omega arith)

pub comment_none : (depth i : ℕ) (s : List ℕ) → length s ≤ i + 1 → behind_comment depth (drop i s) ≡ None
comment_none depth i s h = comment_short depth (drop i s) (omega (arith, length-drop i s))

-- STRINGS

-- the effect of a byte in each mode, unfolded
abbrev pub does : Mode → ℕ → Step
does Raw b = if b == 34 then Close else (if b == 92 then Into Escape else (if is_raw b then Emit b else Bad))
does Escape b = if is_hex b then Into (Byte (digit_value b)) else (if b == 117 then Into Brace else emitted (short_escape b))
does (Byte h) b = if is_hex b then Emit (h * 16 + digit_value b) else Bad
does Brace b = if b == 123 then Into (Digits 0 false) else Bad
does (Digits n behind) b =
    if is_hex b then (if nat_lt (n * 16 + digit_value b) 1114112 then Into (Digits (n * 16 + digit_value b) true) else Bad)
    else (if behind && (b == 95) then Into (Digits n false)
    else (if behind && ((b == 125) && scalar n) then Encode n else Bad))

does_so : (m : Mode) (b : ℕ) → step m b ≡ does m b
unfolding step
does_so Raw b = refl
does_so Escape b = refl
does_so (Byte h) b = refl
does_so Brace b = refl
does_so (Digits n behind) b = refl

pub string_step : (m : Mode) (i : ℕ) (s : List ℕ) → i < length s → string_at m (drop i s) ≡ after_step (does m (get_or s i 0)) (drop (i + 1) s) (λ next. string_at next (drop (i + 1) s))
unfolding string_at
string_step m i s h = rw (at_front i s h, does_so)

pub string_over : (m : Mode) (i : ℕ) (s : List ℕ) → length s ≤ i → string_at m (drop i s) ≡ None
unfolding string_at
string_over m i s h = rw (drop_of_length-le s h)

pub ruleset digits_steps = (string_step, string_over, nat_tests)

pub string_next : (m : Mode) (i : ℕ) (s : List ℕ) → i + 1 < length s → string_at m (drop (i + 1) s) ≡ after_step (does m (get_or s (i + 1) 0)) (drop (i + 2) s) (λ next. string_at next (drop (i + 2) s))
string_next m i s h = let e : i + 1 + 1 ≡ i + 2 = omega arith in rw (string_step m (i + 1) s h, e)

pub ruleset escape_steps = (string_step, string_next, string_over, nat_tests)

pub front_front : (v w : List ℕ) (f : Option (List ℕ × List ℕ)) → with_front v (with_front w f) ≡ with_front (v ++ w) f
front_front v w None = refl
front_front v w (Some r) = rw append_assoc

pub slice_none : (from : ℕ) (s : List ℕ) → slice_range s from from ≡ []
slice_none from s = let z : from - from ≡ 0 = omega arith in rw z

slice_more : (from i : ℕ) (s : List ℕ) → from ≤ i → i < length s → slice_range s from (i + 1) ≡ slice_range s from i ++ get_or s i 0 ∷ []
slice_more from i s l h =
    let size : i + 1 - from ≡ i - from + 1 = omega arith in
    let place : from + (i - from) ≡ i = omega arith in
    rw (size, take_more (drop from s) (i - from) 0 (omega (arith, length-drop from s)), get_or-drop from s (i - from) 0, place)

pub raw_none : (from : ℕ) (s : List ℕ) → string_at Raw (drop from s) ≡ with_front (slice_range s from from) (string_at Raw (drop from s))
raw_none from s = grind (arith, slice_none)

pub raw_more : (from i : ℕ) (s : List ℕ) → from ≤ i → i < length s → is_raw (get_or s i 0) ≡ true → string_at Raw (drop from s) ≡ with_front (slice_range s from i) (string_at Raw (drop i s)) → string_at Raw (drop from s) ≡ with_front (slice_range s from (i + 1)) (string_at Raw (drop (i + 1) s))
raw_more from i s l h e same =
    let here : string_at Raw (drop i s) ≡ with_front (get_or s i 0 ∷ []) (string_at Raw (drop (i + 1) s)) = grind (arith, string_step, nat_tests) in
    rw (slice_more from i s l h, same, here) (front_front (slice_range s from i) (get_or s i 0 ∷ []) (string_at Raw (drop (i + 1) s)))

pub closing_step : (i : ℕ) (s : List ℕ) → i < length s → closing (drop i s) ≡ (if get_or s i 0 == 34 then Some ([], drop (i + 1) s) else None)
closing_step i s h = rw (at_front i s h)

pub closing_over : (i : ℕ) (s : List ℕ) → length s ≤ i → closing (drop i s) ≡ None
closing_over i s h = rw (drop_of_length-le s h)

pub ruleset closing_steps = (string_step, string_over, closing_step, closing_over, nat_tests)

pub rest_is : (s : List ℕ) → rest_at s ≡ option_map (λ r. r.1) (string_at Raw s)
unfolding rest_at
rest_is s = refl

pub rest_found : (c r s : List ℕ) → Some (c, r) ≡ string_at Raw s → rest_at s ≡ Some r
unfolding rest_at
rest_found c r s h = rw (← h)

pub ruleset string_steps = (rest_is, rest_front, closing_step, closing_over, string_over, append-nil, nat_tests)

pub ruleset quote_steps = (string_step, append-nil, nat_tests)

pub ruleset content_steps = (front_front, rest_is, closing_step, closing_over, append-nil, nat_tests)

-- LINES AND RUNS

pub line_step : (i : ℕ) (s : List ℕ) → i < length s → behind_line (drop i s) ≡ (if is_line_end (get_or s i 0) then drop i s else behind_line (drop (i + 1) s))
unfolding behind_line
line_step i s h = rw (at_front i s h)

pub line_over : (i : ℕ) (s : List ℕ) → length s ≤ i → behind_line (drop i s) ≡ drop i s
unfolding behind_line
line_over i s h = rw (drop_of_length-le s h)

pub space_step : (i : ℕ) (s : List ℕ) → i < length s → behind_spaces (drop i s) ≡ (if is_space (get_or s i 0) then behind_spaces (drop (i + 1) s) else drop i s)
unfolding behind_spaces
space_step i s h = rw (at_front i s h)

pub space_over : (i : ℕ) (s : List ℕ) → length s ≤ i → behind_spaces (drop i s) ≡ drop i s
unfolding behind_spaces
space_over i s h = rw (drop_of_length-le s h)

pub run_step : (i : ℕ) (s : List ℕ) → i < length s → behind_run Between (drop i s) ≡ (if get_or s i 0 == 34 then then_run (drop i s) (rest_at (drop (i + 1) s)) else (if is_idchar (get_or s i 0) then behind_run Between (drop (i + 1) s) else Ends (drop i s)))
run_step i s h = rw (at_front i s h) (run_cons (get_or s i 0) (drop (i + 1) s))

pub run_idchar : (i : ℕ) (s : List ℕ) → i < length s → is_idchar (get_or s i 0) ≡ true → behind_run Between (drop i s) ≡ behind_run Between (drop (i + 1) s)
run_idchar i s h e = rw (run_step i s h, excluded (get_or s i 0) 34 e refl, e)

pub run_quote : (i : ℕ) (s : List ℕ) → i < length s → get_or s i 0 ≡ 34 → behind_run Between (drop i s) ≡ then_run (drop i s) (rest_at (drop (i + 1) s))
run_quote i s h e = rw (run_step i s h, e)

pub run_char : (i : ℕ) (s : List ℕ) → i < length s → (get_or s i 0 ≡ 34 → ⊥) → behind_run Between (drop i s) ≡ (if is_idchar (get_or s i 0) then behind_run Between (drop (i + 1) s) else Ends (drop i s))
run_char i s h e = let no : (get_or s i 0 == 34) ≡ false = grind (arith, nat_tests) in rw (run_step i s h, no)

pub run_over : (i : ℕ) (s : List ℕ) → length s ≤ i → behind_run Between (drop i s) ≡ Ends (drop i s)
unfolding behind_run
run_over i s h = rw (drop_of_length-le s h)

pub ruleset run_steps = (run_quote, run_char, run_over, idchar_ascii)

pub all_push : (x : List ℕ) (b : ℕ) → all_idchars x ≡ true → is_idchar b ≡ true → all_idchars (x ++ b ∷ []) ≡ true
unfolding all_idchars
all_push [] b h e = rw e
all_push (c ∷ x) b h e = grind (arith, all_push x b)

pub plain_more : (from i : ℕ) (s : List ℕ) → from ≤ i → i < length s → all_idchars (slice_range s from i) ≡ true → is_idchar (get_or s i 0) ≡ true → all_idchars (slice_range s from (i + 1)) ≡ true
plain_more from i s l h all e = rw (slice_more from i s l h) (all_push (slice_range s from i) (get_or s i 0) all e)

pub plain_none : (from : ℕ) (s : List ℕ) → all_idchars (slice_range s from from) ≡ true
unfolding all_idchars
plain_none from s = rw (slice_none from s)
