-- The classes of runs of idchars, at an offset of the text.
use Rattle.std.proofs.Common.{◌≡◌, ℕ, zero, suc, ◌+◌, ◌-◌, ◌<◌, ◌≤◌, List, [], ◌∷◌, length, drop, get_or, refl, arith, drop-drop, get_or-drop, get_or-take, length-drop, length-take, Bool, true, false, slice_range, ◌==◌, ◌&&◌, ◌*◌, if◌then◌else◌, Some, None, is_some, inl, inr}
use Rattle.wat_lexer.specs.Laws.Prelude.{digit_value, and_parts, cases_lt, nat_tests, is_idchar, between, is_integer, read, begins_hex, Keyword, Id, Annotation, Integer, Reserved, all_idchars, name_behind, or_reserved, class, excluded, at_front, at_front_two, idchar_ascii}
use Rattle.wat_lexer.proofs.Values.{read_step, read_over}

pub slice_front : (from end : ℕ) (s : List ℕ) → from < end → end ≤ length s → slice_range s from end ≡ get_or s from 0 ∷ slice_range s (from + 1) end
slice_front from end s h k =
    let size : end - from ≡ suc (end - (from + 1)) = omega arith in
    rw (at_front from s (omega arith), size)

name_plain : (x : List ℕ) → 0 < length x → all_idchars x ≡ true → name_behind x ≡ Some x
unfolding name_behind
name_plain [] h e = absurd (omega arith)
name_plain (b ∷ x) h e = rw e

pub all_tail : (b : ℕ) (t : List ℕ) → all_idchars (b ∷ t) ≡ true → (is_idchar b ≡ true) × (all_idchars t ≡ true)
unfolding all_idchars
all_tail b t h = and_parts (is_idchar b) (all_idchars t) h

-- the class of the run, by its first byte
pub plain_here : (behind : Bool) (from end : ℕ) (s : List ℕ) → from < end → end ≤ length s → all_idchars (slice_range s from end) ≡ true → class behind (slice_range s from end) ≡
    (if get_or s from 0 == 36 then or_reserved Id (slice_range s from end) (name_behind (slice_range s (from + 1) end))
    else (if behind && (get_or s from 0 == 64) then or_reserved Annotation (slice_range s from end) (name_behind (slice_range s (from + 1) end))
    else (if between 97 122 (get_or s from 0) then Keyword (slice_range s from end)
    else (if is_integer (slice_range s from end) then Integer (slice_range s from end)
    else Reserved (slice_range s from end)))))
unfolding class
plain_here behind from end s order within all =
    let cons = slice_front from end s order within in
    let all = rw cons at all in
    rw (cons, excluded (get_or s from 0) 34 (all_tail (get_or s from 0) (slice_range s (from + 1) end) all).0 refl, all)

-- the name after the first byte
pub plain_name : (from end : ℕ) (s : List ℕ) → from + 1 < end → end ≤ length s → all_idchars (slice_range s from end) ≡ true → name_behind (slice_range s (from + 1) end) ≡ Some (slice_range s (from + 1) end)
plain_name from end s order within all =
    name_plain (slice_range s (from + 1) end) (omega (arith, length-take (end - (from + 1)) (drop (from + 1) s), length-drop (from + 1) s))
    (all_tail (get_or s from 0) (slice_range s (from + 1) end) (rw (slice_front from end s (omega arith) within) at all)).1

pub plain_alone : (from end : ℕ) (s : List ℕ) → from < end → end ≤ from + 1 → name_behind (slice_range s (from + 1) end) ≡ None
unfolding name_behind
plain_alone from end s h k = let none : end - (from + 1) ≡ 0 = omega arith in rw none

all_at : (x : List ℕ) (i : ℕ) → all_idchars x ≡ true → i < length x → is_idchar (get_or x i 0) ≡ true
all_at [] i h k = absurd (omega arith)
all_at (b ∷ x) zero h k = (all_tail b x h).0
all_at (b ∷ x) (suc i) h k = all_at x i (all_tail b x h).1 (omega arith)

pub plain_ascii : (from end i : ℕ) (s : List ℕ) → end ≤ length s → all_idchars (slice_range s from end) ≡ true → from ≤ i → i < end → get_or s i 0 < 128
plain_ascii from end i s within all h k =
    let place : from + (i - from) ≡ i = omega arith in
    let at = all_at (slice_range s from end) (i - from) all (omega (arith, length-take (end - from) (drop from s), length-drop from s)) in
    idchar_ascii (get_or s i 0) (rw (get_or-take (end - from) (drop from s) (i - from) 0 (omega arith), get_or-drop, place) at at)

-- the last byte of a run that goes on with idchars
pub plain_last : (from end : ℕ) (s : List ℕ) → from ≤ end → end ≤ length s → all_idchars (slice_range s from end) ≡ true → 0 < end → (from ≡ end → get_or s (end - 1) 0 < 128) → get_or s (end - 1) 0 < 128
plain_last from end s order within all some same = elim (cases_lt from end) [
  | inl l ↦ plain_ascii from end (end - 1) s within all (omega arith) (omega arith)
  | inr g ↦ same (omega arith)
]

pub ruleset plain_kinds = (plain_here, plain_name, plain_alone, plain_ascii)

-- NUMBERS

-- whether digits are a number doesn't depend on the value so far
pub read_any : (base : ℕ) (behind : Bool) (n : ℕ) (t : List ℕ) → is_some (read base behind n t) ≡ is_some (read base behind 0 t)
unfolding read
read_any base true n [] = refl
read_any base false n [] = refl
read_any base behind n (c ∷ t) = grind (arith, nat_tests, read_any base true (n * base + digit_value c) t, read_any base true (0 * base + digit_value c) t, read_any base false n t)

pub ruleset number_steps = (read_step, read_over, read_any, nat_tests)

pub hex_at : (i : ℕ) (s : List ℕ) → i + 1 < length s → begins_hex (drop i s) ≡ ((get_or s i 0 == 48) && (get_or s (i + 1) 0 == 120))
hex_at i s h = rw (at_front_two i s h)

hex_few : (t : List ℕ) → length t ≤ 1 → begins_hex t ≡ false
hex_few [] h = refl
hex_few (a ∷ []) h = refl
hex_few (a ∷ b ∷ t) h = absurd (omega arith)

pub hex_short : (i : ℕ) (s : List ℕ) → length s ≤ i + 1 → begins_hex (drop i s) ≡ false
hex_short i s h = hex_few (drop i s) (omega (arith, length-drop i s))

hex_many : (t : List ℕ) → begins_hex t ≡ true → 2 ≤ length t
hex_many [] h = cc
hex_many (a ∷ []) h = cc
hex_many (a ∷ b ∷ t) h = omega arith

-- the offset after `0x`
pub hex_after : (i : ℕ) (s : List ℕ) → begins_hex (drop i s) ≡ true → (i + 2 ≤ length s) × (drop 2 (drop i s) ≡ drop (i + 2) s)
hex_after i s h = (omega (arith, length-drop i s, hex_many (drop i s) h), drop-drop 2 i s)
