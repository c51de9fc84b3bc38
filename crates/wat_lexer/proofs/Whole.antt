-- Runs with a string.
use Rattle.std.proofs.Common.{◌≡◌, ℕ, ◌+◌, ◌-◌, ◌<◌, ◌≤◌, List, [], ◌∷◌, length, drop, take, get_or, refl, ap, ◌∙◌, arith, zero, suc, drop-drop, length-drop, Bool, true, false, slice_range, ◌==◌, ◌&&◌, if◌then◌else◌, Option, Some, None}
use Rattle.std.proofs.lemmas.List.{drop-take, take-take}
use Rattle.wat_lexer.specs.Laws.Prelude.{length-append, eqb-true, nat_tests, IsUtf8-from_is_utf8, is_utf8-from_IsUtf8, take-append-add, is_idchar, begins, Token, Id, Annotation, String, Reserved, all_idchars, name_behind, or_reserved, class, string_at, string_of, text_name, whole, Raw, excluded, string_sound, string_complete}
use Rattle.wat_lexer.proofs.Plain.{slice_front, all_tail}
use Rattle.wat_lexer.proofs.Steps.{slice_none}

pub ruleset name_steps = (IsUtf8-from_is_utf8, is_utf8-from_IsUtf8, nat_tests)

-- RUNS

pub of_cons : (b : ℕ) (t : List ℕ) → string_of (b ∷ t) ≡ (if b == 34 then whole (string_at Raw t) else None)
unfolding string_of
of_cons b t = refl

pub quote_first : (x c : List ℕ) → string_of x ≡ Some c → begins 34 x ≡ true
unfolding string_of
quote_first [] c h = cc
quote_first (b ∷ t) c h = grind (arith, nat_tests)

tail_quoted : (b : ℕ) (t : List ℕ) → all_idchars t ≡ false → all_idchars (b ∷ t) ≡ false
unfolding all_idchars
tail_quoted b t h = grind (arith, h)

quoted : (q : ℕ) (x : List ℕ) → begins 34 (drop q x) ≡ true → all_idchars x ≡ false
unfolding all_idchars
quoted zero [] h = cc
quoted zero (b ∷ t) h = rw (eqb-true b 34 h)
quoted (suc q) [] h = cc
quoted (suc q) (b ∷ t) h = tail_quoted b t (quoted q t h)

name_string : (t : List ℕ) → all_idchars t ≡ false → name_behind t ≡ text_name (string_of t)
unfolding name_behind string_of
name_string [] h = refl
name_string (b ∷ t) h = rw h

-- the class of a run that begins with an idchar, by this idchar and the name after it
abbrev pub marked : Bool → ℕ → List ℕ → Option (List ℕ) → Token
marked behind b x o = if b == 36 then or_reserved Id x o else (if behind && (b == 64) then or_reserved Annotation x o else Reserved x)

class_behind : (behind : Bool) (b : ℕ) (t : List ℕ) → is_idchar b ≡ true → all_idchars t ≡ false → class behind (b ∷ t) ≡ marked behind b (b ∷ t) (text_name (string_of t))
unfolding class
class_behind behind b t e h = rw (excluded b 34 e refl, tail_quoted b t h, name_string t h)

no_name : (behind : Bool) (b : ℕ) (x : List ℕ) → marked behind b x None ≡ Reserved x
no_name behind b x = grind (arith, nat_tests)

-- the class of a run whose first string begins at q
abbrev pub classed : Bool → ℕ → List ℕ → Token
classed behind zero x = or_reserved String x (string_of x)
classed behind (suc zero) x = marked behind (get_or x 0 0) x (text_name (string_of (drop 1 x)))
classed behind (suc (suc q)) x = Reserved x

pub class_by : (behind : Bool) (q : ℕ) (x : List ℕ) → all_idchars (take q x) ≡ true → begins 34 (drop q x) ≡ true → class behind x ≡ classed behind q x
unfolding class
class_by behind zero [] all h = cc
class_by behind zero (b ∷ t) all h = rw h
class_by behind (suc q) [] all h = cc
class_by behind (suc zero) (b ∷ t) all h = class_behind behind b t (all_tail b [] all).0 (quoted zero t h)
class_by behind (suc (suc q)) (b ∷ []) all h = cc
class_by behind (suc (suc q)) (b ∷ c ∷ t) all h =
    let (first, rest) = all_tail b (c ∷ take q t) all in
    let no : string_of (c ∷ t) ≡ None = rw (of_cons, excluded c 34 (all_tail c (take q t) rest).0 refl) in
    class_behind behind b (c ∷ t) first (quoted (suc q) (c ∷ t) h) ∙ rw no (no_name behind b (b ∷ c ∷ t))

pub ruleset token_steps = (class_by, quote_first, nat_tests)

class_none : (behind : Bool) (q : ℕ) (x : List ℕ) → string_of (drop q x) ≡ None → classed behind q x ≡ Reserved x
class_none behind zero x k = rw k
class_none behind (suc zero) x k = rw k (no_name behind (get_or x 0 0) x)
class_none behind (suc (suc q)) x k = refl

-- RUNS IN A TEXT

rest_here : (at quote end : ℕ) (s : List ℕ) → at ≤ quote → quote ≤ end → drop (quote - at) (slice_range s at end) ≡ slice_range s quote end
rest_here at quote end s h k =
    let size : end - at ≡ quote - at + (end - quote) = omega arith in
    let place : at + (quote - at) ≡ quote = omega arith in
    rw (size, drop-take (quote - at) (end - quote) (drop at s), drop-drop (quote - at) at s, place)

-- a string in the text, and the rest of its run
string_here : (quote after end : ℕ) (c s : List ℕ) → quote < after → after ≤ end → end ≤ length s → get_or s quote 0 ≡ 34 → string_at Raw (drop (quote + 1) s) ≡ Some (c, drop after s) → string_of (slice_range s quote end) ≡ whole (Some (c, slice_range s after end))
string_here quote after end c s order far within e h =
    let (y, text, str) = string_sound (drop (quote + 1) s) Raw [] c (drop after s) refl h in
    let size : end - (quote + 1) ≡ length y + (end - after) = omega (arith, ap length text, length-append y (drop after s), length-drop (quote + 1) s, length-drop after s) in
    rw (slice_front quote end s (omega arith) within, of_cons, e, text, size, take-append-add y (drop after s) (end - after), string_complete y c (slice_range s after end) str)

pub whole_here : (at quote end : ℕ) (c s : List ℕ) → at ≤ quote → quote < end → end ≤ length s → get_or s quote 0 ≡ 34 → string_at Raw (drop (quote + 1) s) ≡ Some (c, drop end s) → string_of (drop (quote - at) (slice_range s at end)) ≡ Some c
whole_here at quote end c s h k within e f =
    rw (rest_here at quote end s h (omega arith), string_here quote end end c s k (omega arith) within e f, slice_none end s)

-- a run in which something follows the first string
pub class_more : (behind : Bool) (at quote after end : ℕ) (c s : List ℕ) → at ≤ quote → quote < after → after < end → end ≤ length s → get_or s quote 0 ≡ 34 → all_idchars (slice_range s at quote) ≡ true → string_at Raw (drop (quote + 1) s) ≡ Some (c, drop after s) → class behind (slice_range s at end) ≡ Reserved (slice_range s at end)
class_more behind at quote after end c s h k l within e all found =
    let rest = rest_here at quote end s h (omega arith) in
    let run = slice_range s at end in
    class_by behind (quote - at) run (rw (take-take (quote - at) (end - at) (drop at s) (omega arith)) all) (rw (rest, slice_front quote end s (omega arith) within, e))
    ∙ class_none behind (quote - at) run (rw (rest, string_here quote after end c s k (omega arith) within e found, slice_front after end s l within))

-- a run that is one string
pub class_string : (behind : Bool) (at end : ℕ) (c s : List ℕ) → at < end → end ≤ length s → get_or s at 0 ≡ 34 → string_at Raw (drop (at + 1) s) ≡ Some (c, drop end s) → class behind (slice_range s at end) ≡ String c
unfolding all_idchars
class_string behind at end c s order within e f =
    let run = slice_range s at end in
    let none : at - at ≡ 0 = omega arith in
    let is : string_of run ≡ Some c = rw none at (whole_here at at end c s (omega arith) order within e f) in
    class_by behind 0 run refl (rw (slice_front at end s order within, e)) ∙ rw is
