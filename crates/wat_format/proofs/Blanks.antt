-- Spaces before an offset of a text.
use Rattle.std.proofs.Common.{◌≡◌, ℕ, ◌+◌, ◌<◌, ◌≤◌, List, [], ◌∷◌, ◌++◌, length, drop, get_or, refl, ap, sym, ◌∙◌, subst, arith, length-append, length-drop, false, not, slice_range}
use Rattle.wat_lexer.specs.Laws.Prelude.{behind_spaces, if_either}
use Rattle.wat_format.specs.Prelude.{IsUtf8, IsCharBoundary, is_space, Begins, AllSpaces, Follows, Separates, at_front, not-true}
use Rattle.wat_format.specs.declared.piece.Shape.{Shape}
use Rattle.wat_format.proofs.Gaps.{follows_less}
use Rattle.wat_format.proofs.Found.{cut_out, slice_rest, space_boundary}

abbrev NoSpace : List ℕ → Type 0
NoSpace s = Begins (λ b. not (is_space b)) s

spaces_sound : (s : List ℕ) → (x : List ℕ) × (s ≡ x ++ behind_spaces s) × AllSpaces x × NoSpace (behind_spaces s)
unfolding behind_spaces
spaces_sound [] = ([], refl, tt, tt)
spaces_sound (b ∷ t) =
    if_either (λ r. (x : List ℕ) × (b ∷ t ≡ x ++ r) × AllSpaces x × NoSpace r) (is_space b) (behind_spaces t) (b ∷ t)
    (λ e. let (x, s, all, none_there) = spaces_sound t in (b ∷ x, ap (λ l. b ∷ l) s, (e, all), none_there))
    (λ e. ([], refl, tt, rw e))

-- the blanks between two offsets are spaces, and no space follows
pub blanks_found : (s : List ℕ) (end at : ℕ) → end ≤ at → at ≤ length s → drop at s ≡ behind_spaces (drop end s) → AllSpaces (slice_range s end at) × NoSpace (drop at s)
blanks_found s end at order within e =
    let (x, is, all, none_there) = spaces_sound (drop end s) in
    let whole : drop end s ≡ x ++ drop at s = is ∙ ap (λ l. x ++ l) (sym e) in
    (rw (cut_out s x end at order within whole) all, rw e none_there)

pub no_space_at : (s : List ℕ) (at : ℕ) → at < length s → NoSpace (drop at s) → is_space (get_or s at 0) ≡ false
no_space_at s at lt h =
    let here : NoSpace (get_or s at 0 ∷ drop (at + 1) s) = subst NoSpace (at_front at s lt) h in
    not-true (is_space (get_or s at 0)) here

-- the blanks of a text can be before the piece that follows them
pub own_blanks : (s : List ℕ) (end at : ℕ) (last : Shape) → end ≤ at → at < length s → AllSpaces (slice_range s end at) → Follows last (drop end s) → Separates last (slice_range s end at) (get_or s at 0) (slice_range s end at)
own_blanks s end at last order lt all follows =
    let whole : drop end s ≡ slice_range s end at ++ (get_or s at 0 ∷ drop (at + 1) s) = slice_rest s end at order ∙ ap (λ l. slice_range s end at ++ l) (at_front at s lt) in
    (all, follows_less last (slice_range s end at) (drop (at + 1) s) (get_or s at 0) (subst (Follows last) whole follows), λ e. refl)

-- a character boundary before spaces gives a character boundary after them
spaces_boundary : (s : List ℕ) (end : ℕ) (x rest : List ℕ) → IsUtf8 s → IsCharBoundary s end → AllSpaces x → drop end s ≡ x ++ rest → IsCharBoundary s (end + length x)
spaces_boundary s end [] rest u edge all e = let same : end ≡ end + 0 = omega arith in subst (IsCharBoundary s) same edge
spaces_boundary s end (b ∷ x) rest u edge all e =
    let lt : end < length s = omega (arith, ap length e, length-drop end s) in
    let front : get_or s end 0 ∷ drop (end + 1) s ≡ b ∷ (x ++ rest) = sym (at_front end s lt) ∙ e in
    let first : get_or s end 0 ≡ b = cc in
    let behind : drop (end + 1) s ≡ x ++ rest = cc in
    let next = space_boundary s end u lt (ap is_space first ∙ all.0) in
    let place : end + 1 + length x ≡ end + length (b ∷ x) = omega arith in
    subst (IsCharBoundary s) place (spaces_boundary s (end + 1) x rest u next all.1 behind)

pub blanks_boundary : (s : List ℕ) (end at : ℕ) → IsUtf8 s → IsCharBoundary s end → end ≤ at → at ≤ length s → drop at s ≡ behind_spaces (drop end s) → IsCharBoundary s at
blanks_boundary s end at u edge order within e =
    let (x, is, all, none_there) = spaces_sound (drop end s) in
    let whole : drop end s ≡ x ++ drop at s = is ∙ ap (λ l. x ++ l) (sym e) in
    let place : end + length x ≡ at = omega (arith, ap length whole, length-append x (drop at s), length-drop end s, length-drop at s) in
    subst (IsCharBoundary s) place (spaces_boundary s end x (drop at s) u edge all whole)
