-- The reader of strings is exact: it agrees with the definition of strings.
use Rattle.std.proofs.Common.{ap, sym, subst, ◌∙◌, arith, append_assoc, append-nil, inl, inr, ◌≡◌, ℕ, ◌+◌, ◌*◌, ◌<◌, ◌≤◌, List, [], ◌∷◌, ◌++◌, refl, Bool, true, false, ◌==◌, ◌&&◌, nat_lt, Option, None, Some, encode_utf8}
use Rattle.std.proofs.lemmas.Bool.{eqb-true, and_parts, lt-ltb, cases_Bool}
use Rattle.std.proofs.Math.Nat.{mul-le-mul_left}
use Rattle.std.proofs.lemmas.Bool.Decides.{nat_tests}
use Rattle.std.proofs.Math.Utf8.{scalar_cases}
use Rattle.wat_lexer.specs.Prelude.{digit_value, read, is_raw, is_hex, short_escape, Element, raw_byte, short_form, hex_byte, code_point, Str, close, more, step, string_at, with_front, emitted, after_step, Mode, Raw, Escape, Byte, Brace, Digits, Step, Bad, Close, Into, Emit, Encode}
use lib.Utf8.{scalar}
use Rattle.wat_lexer.specs.Laws.Cases.{if_either}

-- the bytes of an element that the reader has read, by the reader's mode
abbrev pub Reached : Mode → List ℕ → Type 0
Reached Raw p = p ≡ []
Reached Escape p = p ≡ 92 ∷ []
Reached (Byte h) p = (c : ℕ) × (p ≡ 92 ∷ c ∷ []) × (is_hex c ≡ true) × (h ≡ digit_value c)
Reached Brace p = p ≡ 92 ∷ 117 ∷ []
Reached (Digits n behind) p = (x : List ℕ) × (p ≡ 92 ∷ 117 ∷ 123 ∷ x) × ((y : List ℕ) → read 16 false 0 (x ++ y) ≡ read 16 behind n y)

abbrev pub StepsTo : Step → List ℕ → Type 0
StepsTo Bad p = Unit {0}
StepsTo Close p = p ≡ 34 ∷ []
StepsTo (Into next) p = Reached next p
StepsTo (Emit v) p = Element p (v ∷ [])
StepsTo (Encode n) p = Element p (encode_utf8 n)

short_step : (b : ℕ) (o : Option ℕ) → short_escape b ≡ o → StepsTo (emitted o) (92 ∷ b ∷ [])
short_step b None e = tt
short_step b (Some v) e = short_form b v e

pub reach : (m : Mode) (p : List ℕ) (b : ℕ) → Reached m p → StepsTo (step m b) (p ++ b ∷ [])
unfolding step read
reach Raw p b r =
    let P : Step → Type 0 = λ st. StepsTo st (p ++ b ∷ []) in
    if_either P (b == 34) _ _ (λ e. rw (r, eqb-true b 34 e))
    (λ _. if_either P (b == 92) _ _ (λ e. rw (r, eqb-true b 92 e))
    (λ _. if_either P (is_raw b) _ _ (λ e. rw r (raw_byte b e)) (λ _. tt)))
reach Escape p b r =
    let P : Step → Type 0 = λ st. StepsTo st (p ++ b ∷ []) in
    if_either P (is_hex b) _ _ (λ h. (b, rw r, h, refl))
    (λ _. if_either P (b == 117) _ _ (λ e. rw (r, eqb-true b 117 e)) (λ _. rw r (short_step b (short_escape b) refl)))
reach (Byte h) p b (c, e, hex, value) =
    if_either (λ st. StepsTo st (p ++ b ∷ [])) (is_hex b) _ _ (λ k. rw (value, e) (hex_byte c b hex k)) (λ _. tt)
reach Brace p b r =
    if_either (λ st. StepsTo st (p ++ b ∷ [])) (b == 123) _ _ (λ e. ([], rw (r, eqb-true b 123 e), λ y. refl)) (λ _. tt)
reach (Digits n behind) p b (x, e, reads) =
    let P : Step → Type 0 = λ st. StepsTo st (p ++ b ∷ []) in
    let here : p ++ b ∷ [] ≡ 92 ∷ 117 ∷ 123 ∷ (x ++ b ∷ []) = rw e in
    let next : (y : List ℕ) → read 16 false 0 ((x ++ b ∷ []) ++ y) ≡ read 16 behind n (b ∷ y) = λ y. rw append_assoc (reads (b ∷ y)) in
    if_either P (is_hex b) _ _
    (λ h. if_either P (nat_lt (n * 16 + digit_value b) 1114112) _ _ (λ _. (x ++ b ∷ [], here, λ y. next y ∙ rw h)) (λ _. tt))
    (λ h. if_either P (behind && (b == 95)) _ _
    (λ u. (x ++ b ∷ [], here, λ y. next y ∙ rw (h, u)))
    (λ _. if_either P (behind && ((b == 125) && scalar n)) _ _
    (λ u. let (after, end) = and_parts behind ((b == 125) && scalar n) u in let (is_end, valid) = and_parts (b == 125) (scalar n) end in
    rw (here, eqb-true b 125 is_end) (code_point x n (ap (read 16 false 0) (sym (append-nil x)) ∙ reads [] ∙ rw after) valid))
    (λ _. tt)))

pub some_same : {A : Type 0} {x y : A} → Some x ≡ Some y → x ≡ y
some_same e = cc

-- SOUND: the reader finds only strings

abbrev Found : List ℕ → List ℕ → List ℕ → List ℕ → Type 0
Found p s c rest = (y : List ℕ) × (s ≡ y ++ rest) × Str (p ++ y) c

-- one byte further to the left
moved : (p : List ℕ) (b : ℕ) (t c rest : List ℕ) → Found (p ++ b ∷ []) t c rest → Found p (b ∷ t) c rest
moved p b t c rest (y, e, h) = (b ∷ y, ap (λ l. b ∷ l) e, subst (λ l. Str l c) (append_assoc p (b ∷ []) y) h)

-- the element that ends with the byte, and the string after the element
emitted_here : (q v t c rest : List ℕ) (found : Option (List ℕ × List ℕ)) → Element q v → ((d r : List ℕ) → found ≡ Some (d, r) → Found [] t d r) → with_front v found ≡ Some (c, rest) → Found q t c rest
emitted_here q v t c rest None h ih e = cc
emitted_here q v t c rest (Some (d, r)) h ih e =
    let (y, s, str) = ih d r refl in
    let same : (v ++ d, r) ≡ (c, rest) = some_same e in
    (y, s ∙ ap (λ w. y ++ w.1) same, subst (λ w. Str (q ++ y) w.0) same (more q v y d h str))

sound_step : (st : Step) (p : List ℕ) (b : ℕ) (t c rest : List ℕ) → StepsTo st (p ++ b ∷ []) →
    ((m : Mode) (q d r : List ℕ) → Reached m q → string_at m t ≡ Some (d, r) → Found q t d r) →
    after_step st t (λ next. string_at next t) ≡ Some (c, rest) → Found p (b ∷ t) c rest
sound_step Bad p b t c rest r ih e = cc
sound_step Close p b t c rest r ih e =
    let same : ([], t) ≡ (c, rest) = some_same e in
    (b ∷ [], ap (λ w. b ∷ w.1) same, subst (λ w. Str (p ++ b ∷ []) w.0) same (rw r close))
sound_step (Into next) p b t c rest r ih e = moved p b t c rest (ih next (p ++ b ∷ []) c rest r e)
sound_step (Emit v) p b t c rest r ih e = moved p b t c rest (emitted_here (p ++ b ∷ []) (v ∷ []) t c rest (string_at Raw t) r (λ d r. ih Raw [] d r refl) e)
sound_step (Encode n) p b t c rest r ih e = moved p b t c rest (emitted_here (p ++ b ∷ []) (encode_utf8 n) t c rest (string_at Raw t) r (λ d r. ih Raw [] d r refl) e)

pub string_sound : (s : List ℕ) (m : Mode) (p c rest : List ℕ) → Reached m p → string_at m s ≡ Some (c, rest) → Found p s c rest
unfolding string_at
string_sound [] m p c rest r h = cc
string_sound (b ∷ t) m p c rest r h = sound_step (step m b) p b t c rest (reach m p b r) (λ m q d r. string_sound t m q d r) h

-- COMPLETE: a string is found, whatever follows it

step_raw : (b : ℕ) → is_raw b ≡ true → step Raw b ≡ Emit b
unfolding step
step_raw b h = grind (arith, nat_tests)

step_short : (b v : ℕ) → short_escape b ≡ Some v → step Escape b ≡ Emit v
unfolding step
step_short b v h = grind (arith, nat_tests)

-- the value of all digits is at least the value of the first digits
pub read_up : (base : ℕ) (x : List ℕ) (behind : Bool) (n k : ℕ) → 1 ≤ base → read base behind n x ≡ Some k → n ≤ k
unfolding read
read_up base [] true n k b h = let e : n ≡ k = cc in omega arith
read_up base [] false n k b h = cc
read_up base (c ∷ x) behind n k b h = grind (arith, nat_tests, read_up base x true (n * base + digit_value c) k b, read_up base x false n k b, mul-le-mul_left n b)

fits : (n k : ℕ) → n ≤ k → scalar k ≡ true → nat_lt n 1114112 ≡ true
fits n k le sc = let small : k < 1114112 = grind (arith, scalar_cases k sc) in lt-ltb n 1114112 (omega arith)

run_digits : (x : List ℕ) (behind : Bool) (n k : ℕ) (t : List ℕ) → read 16 behind n x ≡ Some k → scalar k ≡ true → string_at (Digits n behind) (x ++ 125 ∷ t) ≡ with_front (encode_utf8 k) (string_at Raw t)
unfolding read string_at step
run_digits [] true n k t h sc = let e : n ≡ k = some_same h in rw (e, sc)
run_digits [] false n k t h sc = cc
run_digits (c ∷ x) behind n k t h sc = elim (cases_Bool (is_hex c)) [
  | inl d ↦ (let h = rw d at h in rw (d, fits (n * 16 + digit_value c) k (read_up 16 x true (n * 16 + digit_value c) k (omega arith) h) sc) (run_digits x true (n * 16 + digit_value c) k t h sc))
  | inr d ↦ elim (cases_Bool (behind && (c == 95))) [
    | inl u ↦ rw (d, u) (run_digits x false n k t (rw (d, u) at h) sc)
    | inr u ↦ (let f = rw (d, u) at h in cc)
  ]
]

run_element : (x v : List ℕ) (t : List ℕ) → Element x v → string_at Raw (x ++ t) ≡ with_front v (string_at Raw t)
unfolding step string_at
run_element x v t (raw_byte b h) = rw (step_raw b h)
run_element x v t (short_form c w h) = rw (step_short c w h)
run_element x v t (hex_byte h l p q) = rw (p, q)
run_element x v t (code_point d n e sc) = rw append_assoc (run_digits d false 0 n t e sc)

pub string_complete : (y c : List ℕ) (rest : List ℕ) → Str y c → string_at Raw (y ++ rest) ≡ Some (c, rest)
unfolding step string_at
string_complete y c rest close = refl
string_complete y c rest (more x v z d e h) =
    rw (append_assoc x z rest, run_element x v (z ++ rest) e, string_complete z d rest h)
