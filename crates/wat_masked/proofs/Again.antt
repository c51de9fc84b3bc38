-- In a masked text, no visible float literal directly follows a word that takes floats.
use Rattle.std.specs.Prelude.{◌≡◌, ℕ, List, [], ◌∷◌, refl, Bool, true, false, not, ◌&&◌, ◌||◌, codes, if◌then◌else◌}
use Rattle.wat_masked.specs.Prelude.{bytes_eq, bytes_eq-Decides, visible_tokens, Token, LParen, RParen, Keyword, Id, Annotation, Integer, String, Reserved, is_open, is_float, state_after, is_literal, begins_literal, takes_floats, is_type, is_float_word, with_i, changed, is_changed, change_of, masked_tokens, has_none}
use Rattle.wat_masked.specs.declared.change.Change.{Change}
use Rattle.wat_masked.proofs.Changes.{Fits, fits, no_literal}
use Rattle.wat_masked.proofs.Seen.{row_masked, visible_masked}
use Rattle.wat_masked.specs.declared.change.Change.TheVariants as of

-- the word with an `i` isn't a literal, and doesn't take floats
abbrev Tame : Token → Type 0
Tame t = (is_literal t ≡ false) × (is_float_word true t ≡ false) × (is_float_word false t ≡ false)

tame_first : Tame (Keyword (codes "i32.const"))
unfolding is_float state_after takes_floats is_type
tame_first = (refl, refl, refl)

tame_second : Tame (Keyword (codes "i64.const"))
unfolding is_float state_after takes_floats is_type
tame_second = (refl, refl, refl)

tame_third : Tame (Keyword (codes "i32x4"))
unfolding is_float state_after takes_floats is_type
tame_third = (refl, refl, refl)

tame_fourth : Tame (Keyword (codes "i64x2"))
unfolding is_float state_after takes_floats is_type
tame_fourth = (refl, refl, refl)

tame_fifth : Tame (Keyword (codes "i32"))
unfolding is_float state_after takes_floats is_type
tame_fifth = (refl, refl, refl)

tame_sixth : Tame (Keyword (codes "i64"))
unfolding is_float state_after takes_floats is_type
tame_sixth = (refl, refl, refl)

by_bools : (P : Type 0) (a b c d o e f : Bool) → (a ≡ true → P) → (b ≡ true → P) → (c ≡ true → P) → (d ≡ true → P) → (e ≡ true → P) → (f ≡ true → P) → (a || (b || (c || d))) || (o && (e || f)) ≡ true → P
by_bools P true b c d o e f p q r s t u h = p refl
by_bools P false true c d o e f p q r s t u h = q refl
by_bools P false false true d o e f p q r s t u h = r refl
by_bools P false false false true o e f p q r s t u h = s refl
by_bools P false false false false true true f p q r s t u h = t refl
by_bools P false false false false true false true p q r s t u h = u refl
by_bools P false false false false true false false p q r s t u h = absurd (let k : false ≡ true = h in cc)
by_bools P false false false false false e f p q r s t u h = absurd (let k : false ≡ true = h in cc)

same_word : (k w : List ℕ) → Tame (with_i (Keyword w)) → bytes_eq k w ≡ true → Tame (with_i (Keyword k))
same_word k w h e = rw ((bytes_eq-Decides k w).0 e) h

word_tame : (o : Bool) (k : List ℕ) → is_float_word o (Keyword k) ≡ true → Tame (with_i (Keyword k))
unfolding takes_floats is_type
word_tame o k h = by_bools (Tame (with_i (Keyword k))) (bytes_eq k (codes "f32.const")) (bytes_eq k (codes "f64.const")) (bytes_eq k (codes "f32x4")) (bytes_eq k (codes "f64x2")) o (bytes_eq k (codes "f32")) (bytes_eq k (codes "f64")) (same_word k (codes "f32.const") tame_first) (same_word k (codes "f64.const") tame_second) (same_word k (codes "f32x4") tame_third) (same_word k (codes "f64x2") tame_fourth) (same_word k (codes "f32") tame_fifth) (same_word k (codes "f64") tame_sixth) h

tame : (o : Bool) (t : Token) → is_float_word o t ≡ true → Tame (with_i t)
tame o (Keyword k) h = word_tame o k h
tame o LParen h = absurd (let e : false ≡ true = h in cc)
tame o RParen h = absurd (let e : false ≡ true = h in cc)
tame o (Id n) h = absurd (let e : false ≡ true = h in cc)
tame o (Annotation n) h = absurd (let e : false ≡ true = h in cc)
tame o (Integer n) h = absurd (let e : false ≡ true = h in cc)
tame o (String n) h = absurd (let e : false ≡ true = h in cc)
tame o (Reserved n) h = absurd (let e : false ≡ true = h in cc)

no_word : (o : Bool) (t : Token) → Tame t → is_float_word o t ≡ false
no_word true t h = h.1
no_word false t h = h.2

-- a token that isn't a literal, and follows an unchanged token, doesn't become a literal
literal_by : (w l : Bool) (o : Bool) (s : Token) → is_literal s ≡ false → is_float_word o s ≡ w → is_literal (changed (if w && l then of.Word else of.Keep) s) ≡ false
literal_by true true o s h k = (tame o s k).0
literal_by true false o s h k = h
literal_by false l o s h k = h

no_first : (o : Bool) (ts : List Token) → begins_literal ts ≡ false → begins_literal (row_masked o false ts) ≡ false
no_first o [] h = refl
no_first o (s ∷ ts) h = literal_by (is_float_word o s) (begins_literal ts) o s h refl

no_word_behind : (a b : Bool) → a ≡ false → not (a && b) ≡ true
no_word_behind a b h = rw h refl

no_literal_behind : (a b : Bool) → b ≡ false → not (a && b) ≡ true
no_literal_behind true b h = rw h refl
no_literal_behind false b h = refl

-- after the changes, the token doesn't take floats, or no literal follows
abbrev Left : Bool → Change → Token → List Token → Bool
Left opened c t ts = not (is_float_word opened (changed c t) && begins_literal (row_masked (is_open t) (is_changed c) ts))

left_by : (rl w f opened : Bool) (n : ℕ) (t : Token) (ts : List Token) → is_float_word opened t ≡ w → begins_literal ts ≡ f → Left opened (if rl then of.Literal n else (if w && f then of.Word else of.Keep)) t ts ≡ true
left_by true w f opened n t ts k h = refl
left_by false true true opened n t ts k h = no_word_behind (is_float_word opened (with_i t)) (begins_literal (row_masked (is_open t) true ts)) (no_word opened (with_i t) (tame opened t k))
left_by false false f opened n t ts k h = no_word_behind (is_float_word opened t) (begins_literal (row_masked (is_open t) false ts)) k
left_by false true false opened n t ts k h = no_literal_behind (is_float_word opened t) (begins_literal (row_masked (is_open t) false ts)) (no_first (is_open t) ts h)

opens_as : (c : Change) (t : Token) → Fits c t → is_open (changed c t) ≡ is_open t
opens_as of.Keep t f = refl
opens_as of.Word (Keyword []) f = refl
opens_as of.Word (Keyword (b ∷ k)) f = refl
opens_as of.Word t f = refl
opens_as (of.Literal m) LParen (e, h) = no_literal (false ≡ true) h
opens_as (of.Literal m) t f = refl

row_replaced : (opened row : Bool) (ts : List Token) → has_none opened (row_masked opened row ts) ≡ true
unfolding has_none
row_replaced opened row [] = refl
row_replaced opened row (t ∷ ts) =
    let c = change_of opened row (begins_literal ts) t in
    rw (left_by (row && is_literal t) (is_float_word opened t) (begins_literal ts) opened _ t ts refl refl, opens_as c t (fits opened row (begins_literal ts) t)) (row_replaced (is_open t) (is_changed c) ts)

pub all_replaced : (ts : List Token) → has_none false (visible_tokens false (masked_tokens ts)) ≡ true
all_replaced ts = rw (visible_masked ts) (row_replaced false false (visible_tokens false ts))
