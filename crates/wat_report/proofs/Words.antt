-- Words in a text.
use Rattle.std.proofs.Common.{◌≡◌, ℕ, ◌+◌, ◌-◌, ◌<◌, ◌≤◌, zero, suc, List, [], ◌∷◌, length, take, drop, get_or, refl, arith, length-drop, get_or-drop, subst, Bool, true, false, ◌&&◌, slice_range}
use Rattle.std.proofs.lemmas.List.Sums.{prefix_len_passes, prefix_len-le-length}
use Rattle.wat_mnemonics.specs.Prelude.{prefix_len, IsUtf8, IsCharBoundary, IsCharBoundary-after_ascii, is_idchar}
use Rattle.wat_lexer.specs.Scan.{all_idchars}
use Rattle.wat_report.specs.Found.{word_end}
use Rattle.wat_lexer.specs.Laws.Bytes.{idchar_ascii}

and_left : (a b : Bool) → a && b ≡ true → a ≡ true
and_left true b h = refl
and_left false b h = h

and_right : (a b : Bool) → a && b ≡ true → b ≡ true
and_right true b h = h
and_right false b h = absurd (let e : false ≡ true = h in cc)

-- idchars behind which none stands are all that stand in front
idchars_in_front : (xs : List ℕ) (n : ℕ) → n ≤ length xs → all_idchars (take n xs) ≡ true → (n < length xs → is_idchar (get_or xs n 0) ≡ false) → n ≡ prefix_len is_idchar xs
unfolding all_idchars
idchars_in_front [] n l all stops = omega arith
idchars_in_front (x ∷ xs) zero l all stops = let e : is_idchar x ≡ false = stops (omega arith) in rw e
idchars_in_front (x ∷ xs) (suc n) l all stops =
    let first : is_idchar x ≡ true = and_left (is_idchar x) (all_idchars (take n xs)) all in
    let rest : n ≡ prefix_len is_idchar xs = idchars_in_front xs n (omega arith) (and_right (is_idchar x) (all_idchars (take n xs)) all) (λ w. stops (omega arith)) in
    rw first (omega (arith, rest))

pub plain_word : (text : List ℕ) (at end : ℕ) → at ≤ end → end ≤ length text → all_idchars (slice_range text at end) ≡ true → (end < length text → is_idchar (get_or text end 0) ≡ false) → end ≡ word_end text at
unfolding word_end
plain_word text at end order within all stops =
    let size : length (drop at text) ≡ length text - at = length-drop at text in
    let place : at + (end - at) ≡ end = omega arith in
    let front : end - at ≡ prefix_len is_idchar (drop at text) = idchars_in_front (drop at text) (end - at) (omega arith) all (λ w. rw (get_or-drop at text (end - at) 0, place) (stops (omega arith))) in
    omega (arith, front)

behind_idchars : (text : List ℕ) (at n : ℕ) → n ≡ prefix_len is_idchar (drop at text) → IsUtf8 text → IsCharBoundary text at → IsCharBoundary text (at + n)
behind_idchars text at zero e u boundary = let same : at ≡ at + 0 = omega arith in subst (IsCharBoundary text) same boundary
behind_idchars text at (suc n) e u boundary =
    let passes : is_idchar (get_or (drop at text) n 0) ≡ true = prefix_len_passes is_idchar (drop at text) n 0 (omega arith) in
    let ascii : get_or text (at + n) 0 < 128 = idchar_ascii (get_or text (at + n) 0) (rw get_or-drop at passes) in
    let next : at + n + 1 ≡ at + suc n = omega arith in
    let within : at + n < length text = omega (arith, length-drop at text, prefix_len-le-length is_idchar (drop at text)) in
    subst (IsCharBoundary text) next (IsCharBoundary-after_ascii text (at + n) u within ascii)

-- a text may be cut behind its idchars
pub word_boundary : (text : List ℕ) (at : ℕ) → IsUtf8 text → IsCharBoundary text at → IsCharBoundary text (word_end text at)
unfolding word_end
word_boundary text at u boundary = behind_idchars text at (prefix_len is_idchar (drop at text)) refl u boundary
