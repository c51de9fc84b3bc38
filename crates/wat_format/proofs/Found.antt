-- The results of the scans at an offset of a text.
use Rattle.std.proofs.Common.{suc, inl, inr, drop-drop, ◌≡◌, ℕ, ◌+◌, ◌-◌, ◌<◌, ◌≤◌, List, [], ◌∷◌, ◌++◌, length, drop, get_or, refl, ap, sym, ◌∙◌, subst, arith, length-append, length-drop, get_or-drop, get_or-take, Some, None, ◌==◌, ◌&&◌, true, false, slice_range, nat_lt}
use Rattle.wat_lexer.specs.Laws.Prelude.{IsUtf8, IsCharBoundary, IsCharBoundary-after_ascii, take-append-drop, AllByRecursion, take-append_seam, get_or-append_seam, nat_tests, is_space, is_line_end, Inside, last, closed, opened, other, Begins, begins, in_no_run, Broken, wrong_char, open_comment, wrong_string, behind_comment, behind_line, behind_run, string_at, Raw, Between, Ends, Stuck, comment_sound, comment_complete, line_sound, RunUpTo, run_sound, string_complete, at_front, at_front_two, begins_at}
use Rattle.wat_lexer.specs.declared.fault.Fault.TheVariants.{LexChar, LexString, LexComment}
use Rattle.wat_format.specs.Shapes.{IsOfShape, Follows, IsEdge}
use Rattle.wat_format.specs.declared.piece.Shape.TheVariants as of

pub cut_out : (s x : List ℕ) (at end : ℕ) → at ≤ end → end ≤ length s → drop at s ≡ x ++ drop end s → slice_range s at end ≡ x
cut_out s x at end order within e =
    let n : end - at ≡ length x = omega (arith, ap length e, length-append x (drop end s), length-drop at s, length-drop end s) in
    rw (n, e) (take-append_seam x (drop end s))

last_of : (s z : List ℕ) (b at end : ℕ) → at < end → end ≤ length s → drop at s ≡ (z ++ b ∷ []) ++ drop end s → get_or s (end - 1) 0 ≡ b
last_of s z b at end order within e =
    let is = cut_out s (z ++ b ∷ []) at end (omega arith) within e in
    let n : end - 1 - at ≡ length z = omega (arith, ap length e, length-append (z ++ b ∷ []) (drop end s), length-append z (b ∷ []), length-drop at s, length-drop end s) in
    let place : at + (end - 1 - at) ≡ end - 1 = omega arith in
    let here : get_or (slice_range s at end) (end - 1 - at) 0 ≡ get_or s (end - 1) 0 = rw (get_or-take (end - at) (drop at s) (end - 1 - at) 0 (omega arith), get_or-drop, place) refl in
    sym here ∙ rw (is, n) (get_or-append_seam z b [] 0)

last_inside : (depth : ℕ) (x : List ℕ) → Inside depth x → (y : List ℕ) × (x ≡ y ++ 41 ∷ [])
last_inside depth x last = (59 ∷ [], refl)
last_inside depth x (closed d y h) = let (z, e) = last_inside d y h in (59 ∷ 41 ∷ z, ap (λ l. 59 ∷ 41 ∷ l) e)
last_inside depth x (opened d y h) = let (z, e) = last_inside (d + 1) y h in (40 ∷ 59 ∷ z, ap (λ l. 40 ∷ 59 ∷ l) e)
last_inside depth x (other d b c y p q h) = let (z, e) = last_inside d (c ∷ y) h in (b ∷ z, ap (λ l. b ∷ l) e)

block_with : (s x : List ℕ) (at end : ℕ) → at + 1 < length s → get_or s at 0 ≡ 40 → get_or s (at + 1) 0 ≡ 59 → at + 2 ≤ end → end ≤ length s → drop (at + 2) s ≡ x ++ drop end s → Inside 0 x → IsOfShape of.Block (slice_range s at end) × (get_or s (end - 1) 0 ≡ 41)
block_with s x at end inside a b order within is h =
    let whole : drop at s ≡ (40 ∷ 59 ∷ x) ++ drop end s = rw (at_front_two at s inside, a, b, is) refl in
    let (y, f) = last_inside 0 x h in
    let lasts : drop at s ≡ ((40 ∷ 59 ∷ y) ++ 41 ∷ []) ++ drop end s = whole ∙ ap (λ l. (40 ∷ 59 ∷ l) ++ drop end s) f in
    ((x, cut_out s (40 ∷ 59 ∷ x) at end (omega arith) within whole, h), last_of s (40 ∷ 59 ∷ y) 41 at end (omega arith) within lasts)

pub block_found : (s : List ℕ) (at end : ℕ) → at + 1 < length s → get_or s at 0 ≡ 40 → get_or s (at + 1) 0 ≡ 59 → at + 2 ≤ end → end ≤ length s → Some (drop end s) ≡ behind_comment 0 (drop (at + 2) s) → IsOfShape of.Block (slice_range s at end) × (get_or s (end - 1) 0 ≡ 41)
block_found s at end inside a b order within e =
    let (x, is, h) = comment_sound (drop (at + 2) s) 0 (drop end s) (sym e) in
    block_with s x at end inside a b order within is h

pub block_open : (s : List ℕ) (at : ℕ) → at + 1 < length s → get_or s at 0 ≡ 40 → get_or s (at + 1) 0 ≡ 59 → behind_comment 0 (drop (at + 2) s) ≡ None → Broken (drop at s) LexComment (drop at s)
block_open s at inside a b e =
    rw (at_front_two at s inside, a, b) (open_comment (drop (at + 2) s) (λ x more is h. let found : behind_comment 0 (drop (at + 2) s) ≡ Some more = rw is (comment_complete 0 x more h) in cc))

line_end_ascii : (b : ℕ) → is_line_end b ≡ true → b < 128
line_end_ascii b h = grind (arith, nat_tests)

front_ascii : (s : List ℕ) (end : ℕ) → Begins is_line_end (drop end s) → end < length s → get_or s end 0 < 128
front_ascii s end h lt = let here : Begins is_line_end (get_or s end 0 ∷ drop (end + 1) s) = rw (at_front end s lt) at h in line_end_ascii (get_or s end 0) here

abbrev pub LineIs : List ℕ → ℕ → ℕ → Type 0
LineIs s at end = IsOfShape of.Line (slice_range s at end) × Follows of.Line (drop end s) × (end < length s → get_or s end 0 < 128)

line_with : (s x : List ℕ) (at end : ℕ) → at + 1 < length s → get_or s at 0 ≡ 59 → get_or s (at + 1) 0 ≡ 59 → at + 2 ≤ end → end ≤ length s → drop (at + 2) s ≡ x ++ drop end s → AllByRecursion (λ b. is_line_end b ≡ false) x → Begins is_line_end (drop end s) → LineIs s at end
line_with s x at end inside a b order within is all follows =
    let whole : drop at s ≡ (59 ∷ 59 ∷ x) ++ drop end s = rw (at_front_two at s inside, a, b, is) refl in
    ((x, cut_out s (59 ∷ 59 ∷ x) at end (omega arith) within whole, all), follows, front_ascii s end follows)

pub line_found : (s : List ℕ) (at end : ℕ) → at + 1 < length s → get_or s at 0 ≡ 59 → get_or s (at + 1) 0 ≡ 59 → at + 2 ≤ end → end ≤ length s → drop end s ≡ behind_line (drop (at + 2) s) → LineIs s at end
line_found s at end inside a b order within e =
    let (x, is, all, ends) = line_sound (drop (at + 2) s) in
    line_with s x at end inside a b order within (is ∙ ap (λ l. x ++ l) (sym e)) all (rw e ends)

pub word_found : (s : List ℕ) (at end : ℕ) → at < end → end ≤ length s → behind_run Between (drop at s) ≡ Ends (drop end s) → IsOfShape of.Word (slice_range s at end) × Follows of.Word (drop end s)
word_found s at end order within e =
    let found : RunUpTo (drop at s) (Ends (drop end s)) = subst (RunUpTo (drop at s)) e (run_sound (length (drop at s)) (drop at s) (omega arith)) in
    let (x, is, run, ends) = found in
    let size : length x ≡ end - at = omega (arith, ap length is, length-append x (drop end s), length-drop at s, length-drop end s) in
    rw (cut_out s x at end (omega arith) within is) ((omega arith, run), ends)

pub word_none : (s : List ℕ) (at end : ℕ) → end ≡ at → at < length s → is_space (get_or s at 0) ≡ false → (get_or s at 0 == 40) ≡ false → (get_or s at 0 == 41) ≡ false → (get_or s at 0 == 59) ≡ false → behind_run Between (drop at s) ≡ Ends (drop end s) → Broken (drop at s) LexChar (drop at s)
word_none s at end same within sp a c m e =
    let found : RunUpTo (drop at s) (Ends (drop at s)) = subst (RunUpTo (drop at s)) (e ∙ ap (λ i. Ends (drop i s)) same) (run_sound (length (drop at s)) (drop at s) (omega arith)) in
    let (x, is, run, ends) = found in
    let here : Begins in_no_run (get_or s at 0 ∷ drop (at + 1) s) = rw (at_front at s within) at ends in
    rw (at_front at s within) (wrong_char (get_or s at 0) (drop (at + 1) s) sp here a c (rw m refl))

pub word_wrong : (s : List ℕ) (at quote : ℕ) → behind_run Between (drop at s) ≡ Stuck (drop quote s) → Broken (drop at s) LexString (drop quote s)
word_wrong s at quote e =
    let found : RunUpTo (drop at s) (Stuck (drop quote s)) = subst (RunUpTo (drop at s)) e (run_sound (length (drop at s)) (drop at s) (omega arith)) in
    let (x, is, run, (t, front, none_there)) = found in
    rw (is, front) (wrong_string x t run (λ y c more is2 h. let read : string_at Raw t ≡ Some (c, more) = rw is2 (string_complete y c more h) in cc))

pub mark_alone : (s : List ℕ) (at : ℕ) → at < length s → get_or s at 0 ≡ 59 → nat_lt (at + 1) (length s) && (get_or s (at + 1) 0 == 59) ≡ false → Broken (drop at s) LexChar (drop at s)
mark_alone s at within is none_there =
    let no : begins 59 (drop (at + 1) s) ≡ false = begins_at 59 (at + 1) s ∙ none_there in
    rw (at_front at s within, is) (wrong_char 59 (drop (at + 1) s) refl refl refl refl no)

-- EDGES

space_ascii : (b : ℕ) → is_space b ≡ true → b < 128
space_ascii b h = grind (arith, nat_tests)

pub edge_boundary : (s : List ℕ) (at end : ℕ) → IsUtf8 s → at < end → end ≤ length s → IsEdge s end → IsCharBoundary s end
edge_boundary s at end u order within (inl h) =
    let back : end - 1 + 1 ≡ end = omega arith in
    subst (IsCharBoundary s) back (IsCharBoundary-after_ascii s (end - 1) u (omega arith) h)
edge_boundary s at end u order within (inr h) = (within, λ lt high. absurd (omega (arith, h lt)))

pub space_boundary : (s : List ℕ) (at : ℕ) → IsUtf8 s → at < length s → is_space (get_or s at 0) ≡ true → IsCharBoundary s (at + 1)
space_boundary s at u within h = IsCharBoundary-after_ascii s at u within (space_ascii (get_or s at 0) h)

-- the first byte between two offsets
pub slice_front : (s : List ℕ) (at end : ℕ) → at < end → end ≤ length s → slice_range s at end ≡ get_or s at 0 ∷ slice_range s (at + 1) end
slice_front s at end order within =
    let n : end - at ≡ suc (end - (at + 1)) = omega arith in rw (at_front at s (omega arith), n) refl

pub slice_rest : (s : List ℕ) (at end : ℕ) → at ≤ end → drop at s ≡ slice_range s at end ++ drop end s
slice_rest s at end order =
    let e : at + (end - at) ≡ end = omega arith in
    let more : drop (end - at) (drop at s) ≡ drop end s = rw (drop-drop, e) refl in
    sym (take-append-drop (end - at) (drop at s)) ∙ ap (λ l. slice_range s at end ++ l) more
