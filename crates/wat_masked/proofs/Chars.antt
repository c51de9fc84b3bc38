-- Each byte of a float is an idchar, and each integer is a float.
use Rattle.std.proofs.Common.{◌≡◌, ℕ, ◌+◌, ◌*◌, ◌<◌, List, [], ◌∷◌, ◌++◌, take, drop, refl, sym, ◌∙◌, ap, subst, arith, Bool, true, false, ◌==◌, ◌&&◌, ◌||◌, nat_lt, if◌then◌else◌, codes, is_some, None}
use Rattle.wat_lexer.specs.Laws.Prelude.{digit_value, bytes_eq, and_parts, eqb-true, nat_tests, take-append-drop, bytes_eq-Decides, is_idchar, Idchars, read, number, begins_hex, without_sign, is_integer, by_test}
use Rattle.wat_masked.specs.Float.{is_digit, is_mark, next, is_last, is_whole, state_after, is_nan, is_magnitude, is_float}
use Rattle.wat_masked.specs.declared.float.FloatState.{FloatState}
use Rattle.wat_masked.specs.declared.float.FloatState.TheVariants as at

digit_idchar : (c : ℕ) → digit_value c < 16 → is_idchar c ≡ true
digit_idchar c h = grind (arith, nat_tests)

no_digit : (hex : Bool) (c : ℕ) → is_idchar c ≡ false → is_digit hex c ≡ false
no_digit true c h = grind (arith, nat_tests, digit_idchar)
no_digit false c h = grind (arith, nat_tests, digit_idchar)

no_mark : (hex : Bool) (c : ℕ) → is_idchar c ≡ false → is_mark hex c ≡ false
no_mark true c h = grind (arith, nat_tests)
no_mark false c h = grind (arith, nat_tests)

no_gap : (c : ℕ) → is_idchar c ≡ false → (c == 95) ≡ false
no_gap c h = grind (arith, nat_tests)

no_point : (c : ℕ) → is_idchar c ≡ false → (c == 46) ≡ false
no_point c h = grind (arith, nat_tests)

no_sign : (c : ℕ) → is_idchar c ≡ false → (c == 43) || (c == 45) ≡ false
no_sign c h = grind (arith, nat_tests)

next_wrong : (hex : Bool) (p : FloatState) (c : ℕ) → is_idchar c ≡ false → next hex p c ≡ at.Wrong
next_wrong hex at.Start c h = rw (no_digit hex c h) refl
next_wrong hex at.Whole c h = rw (no_digit hex c h, no_gap c h, no_point c h, no_mark hex c h) refl
next_wrong hex at.WholeGap c h = rw (no_digit hex c h) refl
next_wrong hex at.Point c h = rw (no_digit hex c h, no_mark hex c h) refl
next_wrong hex at.Fraction c h = rw (no_digit hex c h, no_gap c h, no_mark hex c h) refl
next_wrong hex at.FractionGap c h = rw (no_digit hex c h) refl
next_wrong hex at.Mark c h = rw (no_digit false c h, no_sign c h) refl
next_wrong hex at.Sign c h = rw (no_digit false c h) refl
next_wrong hex at.Exponent c h = rw (no_digit false c h, no_gap c h) refl
next_wrong hex at.ExponentGap c h = rw (no_digit false c h) refl
next_wrong hex at.Wrong c h = rw (no_digit hex c h) refl

same_either : (b : Bool) (p : FloatState) → (if b then p else p) ≡ p
same_either true p = refl
same_either false p = refl

wrong_stays : (hex : Bool) (x : List ℕ) → state_after hex at.Wrong x ≡ at.Wrong
unfolding state_after
wrong_stays hex [] = refl
wrong_stays hex (c ∷ t) = rw (same_either (is_digit hex c) at.Wrong) (wrong_stays hex t)

-- a state other than `Wrong`
abbrev is_right : FloatState → Bool
is_right at.Wrong = false
is_right _ = true

state_chars : (hex : Bool) (p : FloatState) (x : List ℕ) → is_right (state_after hex p x) ≡ true → Idchars x
unfolding state_after
state_chars hex p [] h = tt
state_chars hex p (c ∷ t) h = (
  by_test {P = is_idchar c ≡ true} (is_idchar c) (λ e. e) (λ e. let w : is_right (state_after hex at.Wrong t) ≡ true = rw (next_wrong hex p c e) at h in let f : false ≡ true = ap is_right (sym (wrong_stays hex t)) ∙ w in cc),
  state_chars hex (next hex p c) t h,
)

last_right : (p : FloatState) → is_last p ≡ true → is_right p ≡ true
last_right at.Wrong h = h
last_right at.Start h = refl
last_right at.Whole h = refl
last_right at.WholeGap h = refl
last_right at.Point h = refl
last_right at.Fraction h = refl
last_right at.FractionGap h = refl
last_right at.Mark h = refl
last_right at.Sign h = refl
last_right at.Exponent h = refl
last_right at.ExponentGap h = refl

whole_right : (p : FloatState) → is_whole p ≡ true → is_right p ≡ true
whole_right at.Whole h = refl
whole_right at.Wrong h = h
whole_right p h = absurd (let e : false ≡ true = h in cc)

last_chars : (hex : Bool) (x : List ℕ) → is_last (state_after hex at.Start x) ≡ true → Idchars x
last_chars hex x h = state_chars hex at.Start x (last_right (state_after hex at.Start x) h)

both_chars : (x y : List ℕ) → Idchars x → Idchars y → Idchars (x ++ y)
both_chars [] y h k = k
both_chars (b ∷ x) y h k = (h.0, both_chars x y h.1 k)

nan_chars : (x : List ℕ) → is_nan x ≡ true → Idchars x
nan_chars x h =
    let (a, b) = and_parts (bytes_eq (take 6 x) (codes "nan:0x")) (is_whole (state_after true at.Start (drop 6 x))) h in
    let front : take 6 x ≡ codes "nan:0x" = (bytes_eq-Decides (take 6 x) (codes "nan:0x")).0 a in
    let first : Idchars (take 6 x) = rw front (refl, (refl, (refl, (refl, (refl, (refl, tt)))))) in
    subst Idchars (take-append-drop 6 x) (both_chars (take 6 x) (drop 6 x) first (state_chars true at.Start (drop 6 x) (whole_right (state_after true at.Start (drop 6 x)) b)))

hex_chars : (x : List ℕ) → begins_hex x ≡ true → Idchars (drop 2 x) → Idchars x
hex_chars [] h k = tt
hex_chars (a ∷ []) h k = absurd (let e : false ≡ true = h in cc)
hex_chars (a ∷ b ∷ t) h k = let (p, q) = and_parts (a == 48) (b == 120) h in (rw (eqb-true a 48 p) refl, (rw (eqb-true b 120 q) refl, k))

number_chars : (hex : Bool) (x : List ℕ) → begins_hex x ≡ hex → (if hex then is_last (state_after true at.Start (drop 2 x)) else is_last (state_after false at.Start x)) ≡ true → Idchars x
number_chars true x e h = hex_chars x e (last_chars true (drop 2 x) h)
number_chars false x e h = last_chars false x h

word_chars : (x w : List ℕ) → bytes_eq x w ≡ true → Idchars w → Idchars x
word_chars x w h k = rw ((bytes_eq-Decides x w).0 h) k

magnitude_by : (a b c : Bool) (x : List ℕ) → bytes_eq x (codes "inf") ≡ a → bytes_eq x (codes "nan") ≡ b → is_nan x ≡ c → a || (b || (c || (if begins_hex x then is_last (state_after true at.Start (drop 2 x)) else is_last (state_after false at.Start x)))) ≡ true → Idchars x
magnitude_by true b c x p q r h = word_chars x (codes "inf") p (refl, (refl, (refl, tt)))
magnitude_by false true c x p q r h = word_chars x (codes "nan") q (refl, (refl, (refl, tt)))
magnitude_by false false true x p q r h = nan_chars x r
magnitude_by false false false x p q r h = number_chars (begins_hex x) x refl h

magnitude_chars : (x : List ℕ) → is_magnitude x ≡ true → Idchars x
magnitude_chars x h = magnitude_by (bytes_eq x (codes "inf")) (bytes_eq x (codes "nan")) (is_nan x) x refl refl refl h

signed_by : (s : Bool) (c : ℕ) (t : List ℕ) → (c == 43) || (c == 45) ≡ s → Idchars (if s then t else c ∷ t) → Idchars (c ∷ t)
signed_by false c t e h = h
signed_by true c t e h = (grind (arith, nat_tests), h)

sign_chars : (x : List ℕ) → Idchars (without_sign x) → Idchars x
sign_chars [] h = tt
sign_chars (c ∷ t) h = signed_by ((c == 43) || (c == 45)) c t refl h

pub float_idchars : (x : List ℕ) → is_float x ≡ true → Idchars x
unfolding is_float
float_idchars x h = sign_chars x (magnitude_chars (without_sign x) h)

-- INTEGERS

-- a state in the digits before the point
abbrev digits_state : Bool → FloatState
digits_state true = at.Whole
digits_state false = at.WholeGap

abbrev base_of : Bool → ℕ
base_of true = 16
base_of false = 10

digit_is : (hex : Bool) (c : ℕ) → is_digit hex c ≡ nat_lt (digit_value c) (base_of hex)
digit_is true c = refl
digit_is false c = refl

gap_next : (hex behind d g : Bool) (c n : ℕ) (t : List ℕ) → is_digit hex c ≡ d → (c == 95) ≡ g → is_some (if d then read (base_of hex) true (n * base_of hex + digit_value c) t else (if behind && g then read (base_of hex) false n t else None)) ≡ true → ((b : Bool) (m : ℕ) → is_some (read (base_of hex) b m t) ≡ true → is_last (state_after hex (digits_state b) t) ≡ true) → is_last (state_after hex (next hex (digits_state behind) c) t) ≡ true
gap_next hex true true g c n t p q h go = rw p (go true (n * base_of hex + digit_value c) h)
gap_next hex false true g c n t p q h go = rw p (go true (n * base_of hex + digit_value c) h)
gap_next hex true false true c n t p q h go = rw (p, q) (go false n h)
gap_next hex true false false c n t p q h go = absurd (let e : false ≡ true = h in cc)
gap_next hex false false g c n t p q h go = absurd (let e : false ≡ true = h in cc)

digits_last : (hex behind : Bool) (n : ℕ) (x : List ℕ) → is_some (read (base_of hex) behind n x) ≡ true → is_last (state_after hex (digits_state behind) x) ≡ true
unfolding read state_after
digits_last hex true n [] h = refl
digits_last hex false n [] h = h
digits_last hex behind n (c ∷ t) h = gap_next hex behind (is_digit hex c) (c == 95) c n t refl refl (rw (digit_is hex c) h) (λ b m k. digits_last hex b m t k)

-- (the state before the first digit is treated as a state after a `_`)
number_last : (hex : Bool) (x : List ℕ) → is_some (number (base_of hex) x) ≡ true → is_last (state_after hex at.Start x) ≡ true
unfolding read state_after
number_last hex [] h = h
number_last hex (c ∷ t) h = digits_last hex false 0 (c ∷ t) h

or_last : (a b c d : Bool) → d ≡ true → a || (b || (c || d)) ≡ true
or_last true b c d h = refl
or_last false true c d h = refl
or_last false false true d h = refl
or_last false false false d h = h

by_hex : (hex : Bool) (x : List ℕ) → is_some (if hex then number 16 (drop 2 x) else number 10 x) ≡ true → (if hex then is_last (state_after true at.Start (drop 2 x)) else is_last (state_after false at.Start x)) ≡ true
by_hex true x h = number_last true (drop 2 x) h
by_hex false x h = number_last false x h

pub integer_float : (x : List ℕ) → is_integer x ≡ true → is_float x ≡ true
unfolding is_float
integer_float x h =
    let y = without_sign x in
    or_last (bytes_eq y (codes "inf")) (bytes_eq y (codes "nan")) (is_nan y) (if begins_hex y then is_last (state_after true at.Start (drop 2 y)) else is_last (state_after false at.Start y)) (by_hex (begins_hex y) y h)
