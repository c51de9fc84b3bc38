-- The scans of comments and runs are exact: they agree with the definitions.
use Rattle.std.proofs.Common.{ap, sym, subst, ◌∙◌, arith, append_assoc, length-append, ◌≡◌, ℕ, zero, suc, ◌+◌, ◌-◌, ◌≤◌, List, [], ◌∷◌, ◌++◌, refl, length, if◌then◌else◌, option_map, true, false, ◌==◌, ◌&&◌, Option, None, Some, encode_utf8}
use Rattle.std.proofs.lemmas.Bool.{eqb-true, and_parts}
use Rattle.std.proofs.lemmas.Bool.Decides.{nat_tests}
use Rattle.wat_lexer.specs.Prelude.{AllByRecursion, is_idchar, is_line_end, Inside, last, closed, opened, other, Begins, Run, none, idchar, string, in_no_run, step, string_at, with_front, after_step, behind_comment, behind_run, behind_line, rest_at, Between, RunEnd, Ends, Stuck, Mode, Raw, Step, Bad, Close, Into, Emit, Encode}
use Rattle.wat_lexer.specs.Scan.{run_step, Within}
use Rattle.wat_lexer.specs.Laws.Strings.{some_same, string_sound, string_complete}
use Rattle.wat_lexer.specs.Laws.Cases.{if_either}

-- COMMENTS

abbrev Comment : ℕ → List ℕ → List ℕ → Type 0
Comment depth s rest = (x : List ℕ) × (s ≡ x ++ rest) × Inside depth x

comment_more : (depth a b : ℕ) (t x rest : List ℕ) → (a == 40) && (b == 59) ≡ false → (a == 59) && (b == 41) ≡ false → b ∷ t ≡ x ++ rest → Inside depth x → Comment depth (a ∷ b ∷ t) rest
comment_more depth a b t [] rest p q e h = elim h [ ]
comment_more depth a b t (c ∷ y) rest p q e h = let same : b ≡ c = cc in (a ∷ c ∷ y, ap (λ l. a ∷ l) e, other depth a c y (rw same at p) (rw same at q) h)

pub comment_sound : (s : List ℕ) (depth : ℕ) (rest : List ℕ) → behind_comment depth s ≡ Some rest → Comment depth s rest
unfolding behind_comment
comment_sound [] depth rest h = cc
comment_sound (a ∷ []) depth rest h = cc
comment_sound (a ∷ b ∷ t) depth rest h =
    let P : Option (List ℕ) → Type 0 = λ o. o ≡ Some rest → Comment depth (a ∷ b ∷ t) rest in
    if_either P ((a == 40) && (b == 59)) _ _
    (λ e h. let parts = and_parts (a == 40) (b == 59) e in
    let (x, s, inside) = comment_sound t (depth + 1) rest h in
    (40 ∷ 59 ∷ x, (λ i. eqb-true a 40 parts.0 i ∷ (eqb-true b 59 parts.1 i ∷ s i)), opened depth x inside))
    (λ no. if_either P ((a == 59) && (b == 41)) _ _
    (λ e. let parts = and_parts (a == 59) (b == 41) e in
    if_either P (depth == 0) _ _
    (λ z h. (59 ∷ 41 ∷ [], (λ i. eqb-true a 59 parts.0 i ∷ (eqb-true b 41 parts.1 i ∷ some_same h i)), rw (eqb-true depth 0 z) last))
    (λ z h. let (x, s, inside) = comment_sound t (depth - 1) rest h in
    let back : depth - 1 + 1 ≡ depth = grind (arith, nat_tests) in
    (59 ∷ 41 ∷ x, (λ i. eqb-true a 59 parts.0 i ∷ (eqb-true b 41 parts.1 i ∷ s i)), rw back at (closed (depth - 1) x inside))))
    (λ no_close h. let (x, s, inside) = comment_sound (b ∷ t) depth rest h in comment_more depth a b t x rest no no_close s inside)) h

pub comment_complete : (depth : ℕ) (x rest : List ℕ) → Inside depth x → behind_comment depth (x ++ rest) ≡ Some rest
unfolding behind_comment
comment_complete depth x rest last = refl
comment_complete depth x rest (closed d y h) =
    let back : d + 1 - 1 ≡ d = omega arith in
    let above : (d + 1 == 0) ≡ false = grind (arith, nat_tests) in
    rw (above, back) (comment_complete d y rest h)
comment_complete depth x rest (opened d y h) = comment_complete (d + 1) y rest h
comment_complete depth x rest (other d b c y p q h) = rw (p, q) (comment_complete d (c ∷ y) rest h)

-- LINES

pub line_sound : (s : List ℕ) → (x : List ℕ) × (s ≡ x ++ behind_line s) × AllByRecursion (λ b. is_line_end b ≡ false) x × Begins is_line_end (behind_line s)
unfolding behind_line
line_sound [] = ([], refl, tt, tt)
line_sound (b ∷ t) =
    if_either (λ r. (x : List ℕ) × (b ∷ t ≡ x ++ r) × AllByRecursion (λ b. is_line_end b ≡ false) x × Begins is_line_end r) (is_line_end b) (b ∷ t) (behind_line t)
    (λ e. ([], refl, tt, e))
    (λ e. let (x, s, all, ends) = line_sound t in (b ∷ x, ap (λ l. b ∷ l) s, (e, all), ends))

pub line_complete : (x rest : List ℕ) → AllByRecursion (λ b. is_line_end b ≡ false) x → Begins is_line_end rest → behind_line (x ++ rest) ≡ rest
unfolding behind_line
line_complete [] [] h e = refl
line_complete [] (b ∷ rest) h e = rw e
line_complete (b ∷ x) rest h e = rw (h.0) (line_complete x rest h.1 e)

-- RUNS

-- the text from the end of a run on, or from an invalid string in the run on
abbrev pub end_of : RunEnd → List ℕ
end_of (Ends rest) = rest
end_of (Stuck q) = q

-- the reason why a run ends there
abbrev pub RunStops : RunEnd → Type 0
RunStops (Ends rest) = Begins in_no_run rest
RunStops (Stuck q) = (t : List ℕ) × (q ≡ 34 ∷ t) × (string_at Raw t ≡ None)

abbrev pub RunUpTo : List ℕ → RunEnd → Type 0
RunUpTo s e = (x : List ℕ) × (s ≡ x ++ end_of e) × Run x × RunStops e

-- within a string a run goes on after the string
abbrev pub then_run : List ℕ → Option (List ℕ) → RunEnd
then_run q None = Stuck q
then_run q (Some r) = behind_run Between r

abbrev rest_of : Option (List ℕ × List ℕ) → Option (List ℕ)
rest_of f = option_map (λ r. r.1) f

pub rest_front : (v : List ℕ) (f : Option (List ℕ × List ℕ)) → option_map (λ r. r.1) (with_front v f) ≡ option_map (λ r. r.1) f
rest_front v None = refl
rest_front v (Some r) = refl

step_string : (st : Step) (q t : List ℕ) → ((m : Mode) → behind_run (Within m q) t ≡ then_run q (rest_of (string_at m t))) → run_step st q (λ next. behind_run next t) ≡ then_run q (rest_of (after_step st t (λ next. string_at next t)))
step_string Bad q t ih = refl
step_string Close q t ih = refl
step_string (Into next) q t ih = ih next
step_string (Emit v) q t ih = ih Raw ∙ ap (then_run q) (sym (rest_front (v ∷ []) (string_at Raw t)))
step_string (Encode n) q t ih = ih Raw ∙ ap (then_run q) (sym (rest_front (encode_utf8 n) (string_at Raw t)))

run_in_string : (s q : List ℕ) (m : Mode) → behind_run (Within m q) s ≡ then_run q (rest_of (string_at m s))
unfolding behind_run string_at
run_in_string [] q m = refl
run_in_string (b ∷ t) q m = step_string (step m b) q t (λ next. run_in_string t q next)

pub run_cons : (b : ℕ) (t : List ℕ) → behind_run Between (b ∷ t) ≡ (if b == 34 then then_run (b ∷ t) (rest_at t) else (if is_idchar b then behind_run Between t else Ends (b ∷ t)))
unfolding behind_run rest_at
run_cons b t = ap (λ o. if b == 34 then o else (if is_idchar b then behind_run Between t else Ends (b ∷ t))) (run_in_string t (b ∷ t) Raw)

-- a run from a quote on, by the string after the quote
from_quote : (b : ℕ) (t : List ℕ) (o : Option (List ℕ × List ℕ)) → b ≡ 34 → string_at Raw t ≡ o → ((r : List ℕ) → length r ≤ length t → RunUpTo r (behind_run Between r)) → RunUpTo (b ∷ t) (then_run (b ∷ t) (rest_of o))
from_quote b t None e h behind = ([], refl, none, (t, ap (λ c. c ∷ t) e, h))
from_quote b t (Some (c, r)) e h behind =
    let (y, s, str) = string_sound t Raw [] c r refl h in
    let (x, tail, run, stops) = behind r (omega (arith, ap length s, length-append y r)) in
    (34 ∷ (y ++ x), (λ i. e i ∷ (s ∙ ap (λ l. y ++ l) tail ∙ sym (append_assoc y x (end_of (behind_run Between r)))) i), string y c x str run, stops)

-- a run ends where no further part of it begins, or at an invalid string
pub run_sound : (n : ℕ) (s : List ℕ) → length s ≤ n → RunUpTo s (behind_run Between s)
unfolding behind_run rest_at
run_sound n [] le = ([], refl, none, tt)
run_sound zero (b ∷ t) le = absurd (omega arith)
run_sound (suc n) (b ∷ t) le =
    subst (RunUpTo (b ∷ t)) (sym (run_cons b t)) (if_either (RunUpTo (b ∷ t)) (b == 34) _ _
    (λ e. from_quote b t (string_at Raw t) (eqb-true b 34 e) refl (λ r small. run_sound n r (omega arith)))
    (λ no. if_either (RunUpTo (b ∷ t)) (is_idchar b) _ _
    (λ e. let (x, s, r, stops) = run_sound n t (omega arith) in (b ∷ x, ap (λ l. b ∷ l) s, idchar b x e r, stops))
    (λ e. ([], refl, none, rw (e, no)))))

pub ends_here : (rest : List ℕ) → Begins in_no_run rest → behind_run Between rest ≡ Ends rest
unfolding behind_run
ends_here [] h = refl
ends_here (b ∷ t) h = grind (arith, nat_tests, run_cons)

pub excluded : (b c : ℕ) → is_idchar b ≡ true → is_idchar c ≡ false → (b == c) ≡ false
excluded b c h k = grind (arith, nat_tests, h, k)

-- the scan passes the parts of a run
run_passes : (x rest : List ℕ) → Run x → behind_run Between (x ++ rest) ≡ behind_run Between rest
unfolding rest_at
run_passes x rest none = refl
run_passes x rest (idchar b y e r) = rw (run_cons, excluded b 34 e refl, e) (run_passes y rest r)
run_passes x rest (string y c z s r) = rw (run_cons, append_assoc, string_complete y c (z ++ rest) s) (run_passes z rest r)

pub run_complete : (x rest : List ℕ) → Run x → Begins in_no_run rest → behind_run Between (x ++ rest) ≡ Ends rest
run_complete x rest r h = run_passes x rest r ∙ ends_here rest h

pub run_stuck : (x rest : List ℕ) → Run x → string_at Raw rest ≡ None → behind_run Between (x ++ 34 ∷ rest) ≡ Stuck (34 ∷ rest)
unfolding rest_at
run_stuck x rest r h = run_passes x (34 ∷ rest) r ∙ rw (run_cons, h)
