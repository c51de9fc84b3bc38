-- Facts about a text and the result while the result is written.
use Rattle.std.proofs.Common.{◌≡◌, ℕ, ◌+◌, ◌<◌, ◌≤◌, List, [], ◌∷◌, ◌++◌, length, drop, refl, ap, sym, ◌∙◌, subst, arith, append_assoc, append-nil, length-drop, get_or, Bool, true, false, ◌&&◌, slice_range}
use Rattle.wat_format.specs.Prelude.{is_space, Closed, Fails, IsCut, offset_of, Error, Fault, Placed, Part, HasParts, done, space, SameButSpaces, toks_in, is_opening, IsOfShape, part_of, Follows, no_bytes, AllSpaces, Separates, groups_behind}
use Rattle.wat_format.specs.Shapes.{WrongAt}
use Rattle.wat_format.proofs.Found.{slice_front, slice_rest}
use Rattle.wat_lexer.specs.View.{FailsAt}
use Rattle.wat_format.specs.declared.piece.Shape.{Shape}
use Rattle.wat_format.proofs.Gaps.{follows_more, line_follows}
use Rattle.wat_format.proofs.Groups.{open_behind, one_piece_more, all_closed}
use Rattle.wat_format.proofs.Reading.{reads_piece, fails_piece, part_flag, reads_gap, reads_cuts, none_false}
use Rattle.wat_lexer.specs.Cut as cut
use Rattle.wat_format.specs.declared.piece.Shape.TheVariants as of

-- The parts so far. In the text, the parts of the rest come after them; in the result, any text that can
-- be after the last piece is read after them. `depth` groups are open after them.
pub record SoFar (text : List ℕ) (behind : Bool) (rest out : List ℕ) (last : Shape) (depth : ℕ) : Type 0 where
  pub parts : List Part
  pub read : (us : List Part) → HasParts behind rest us → HasParts false text (parts ++ us)
  pub wrote : (more : List ℕ) (us : List Part) → Follows last more → HasParts (is_opening last) more us → HasParts false (out ++ more) (parts ++ us)
  pub fails : (f : Fault) (at : List ℕ) → Fails behind rest f at → Fails false text f at
  pub groups : open_behind 0 (toks_in parts) ≡ depth

pub at_start : (text : List ℕ) → SoFar text false text [] of.Block 0
at_start text = record { parts = []; read = λ us r. r; wrote = λ more us f r. r; fails = λ f at h. h; groups = refl }

over_space : {text rest out : List ℕ} {behind : Bool} {last : Shape} {depth : ℕ} (b : ℕ) → is_space b ≡ true → SoFar text behind (b ∷ rest) out last depth → SoFar text false rest out last depth
over_space {text} {rest} {out} {behind} {last} b h so = record {
  parts = so.parts;
  read = λ us r. so.read us (space behind b rest us h r);
  wrote = so.wrote;
  fails = λ f at k. so.fails f at (cut.behind_blank behind (b ∷ rest) (b ∷ []) rest f at refl (cut.space b rest h) k);
  groups = so.groups;
}

over_spaces : {text rest out : List ℕ} {behind : Bool} {last : Shape} {depth : ℕ} (x : List ℕ) → AllSpaces x → SoFar text behind (x ++ rest) out last depth → SoFar text (no_bytes x && behind) rest out last depth
over_spaces [] h so = so
over_spaces (b ∷ x) h so = rw (none_false x) at (over_spaces x h.1 (over_space b h.0 so))

pub over_blanks : {text out : List ℕ} {behind : Bool} {last : Shape} {depth : ℕ} (end at : ℕ) → end ≤ at → AllSpaces (slice_range text end at) → SoFar text behind (drop end text) out last depth → SoFar text (no_bytes (slice_range text end at) && behind) (drop at text) out last depth
over_blanks {text} {out} {behind} {last} {depth} end at order h so =
    over_spaces (slice_range text end at) h (subst (λ l. SoFar text behind l out last depth) (slice_rest text end at order) so)

over_piece : {text rest out : List ℕ} {behind : Bool} {last : Shape} {depth : ℕ} (s : Shape) (b : ℕ) (y x : List ℕ) → IsOfShape s (b ∷ y) → Follows s rest → AllSpaces x → Follows last (x ++ b ∷ []) → (b ≡ 64 → no_bytes x && is_opening last ≡ behind) → SoFar text behind ((b ∷ y) ++ rest) out last depth → SoFar text (is_opening s) rest ((out ++ x) ++ (b ∷ y)) s (groups_behind s depth)
over_piece {text} {rest} {out} {behind} {last} {depth} s b y x stands ends spaces fits flag so =
    let z = b ∷ y in
    let p = part_of behind s z in
    let w = no_bytes x && is_opening last in
    let same : part_of w s z ≡ p = part_flag s b y w behind flag in record {
      parts = so.parts ++ p ∷ [];
      read = λ us r. rw append_assoc (so.read (p ∷ us) (reads_piece behind s z rest us stands ends r));
      wrote = λ more us f r.
          let piece : HasParts w (z ++ more) (p ∷ us) = subst (λ q. HasParts w (z ++ more) (q ∷ us)) same (reads_piece w s z more us stands f r) in
          let all : HasParts (is_opening last) (x ++ (z ++ more)) (p ∷ us) = reads_gap x (z ++ more) (is_opening last) (p ∷ us) spaces piece in
          rw (append_assoc so.parts (p ∷ []) us, append_assoc (out ++ x) z more, append_assoc out x (z ++ more)) (so.wrote (x ++ (z ++ more)) (p ∷ us) (follows_more last x (y ++ more) b fits) all);
      fails = λ f at h. so.fails f at (fails_piece behind s z rest f at stands ends h);
      groups = one_piece_more so.parts behind s z depth so.groups;
    }

text_read : {text rest out : List ℕ} {behind : Bool} {last : Shape} {depth : ℕ} (so : SoFar text behind rest out last depth) → rest ≡ [] → HasParts false text so.parts
text_read {behind = behind} so e = rw append-nil at (so.read [] (rw e (done behind)))

pub at_end : {text rest out : List ℕ} {behind : Bool} {last : Shape} {depth : ℕ} → SoFar text behind rest out last depth → rest ≡ [] → SameButSpaces text out
at_end {last = last} so e = (so.parts, text_read so e, rw (append-nil, append-nil) at (so.wrote [] [] tt (done (is_opening last))))

pub with_line : {text rest out : List ℕ} {behind : Bool} {last : Shape} {depth : ℕ} → SoFar text behind rest out last depth → rest ≡ [] → SameButSpaces text (out ++ 10 ∷ [])
with_line {last = last} so e = (so.parts, text_read so e, rw append-nil at (so.wrote (10 ∷ []) [] (line_follows last) (space (is_opening last) 10 [] [] refl (done false))))

pub closed_end : {text rest out : List ℕ} {behind : Bool} {last : Shape} {depth : ℕ} → SoFar text behind rest out last depth → rest ≡ [] → depth ≡ 0 → (ts : List Placed) × IsCut text ts
closed_end {text} so e none_open =
    let (us, cuts, same) = reads_cuts (length text) (text_read so e) in
    (us, (cuts, subst Closed (sym same) (all_closed (toks_in so.parts) (so.groups ∙ none_open))))

pub wrong_here : {text out : List ℕ} {behind : Bool} {last : Shape} {depth : ℕ} (at : ℕ) (e : Error) → SoFar text behind (drop at text) out last depth → WrongAt text at e → FailsAt text e
wrong_here {text} {behind = behind} at e so (within, h) =
    let o = offset_of e.span in
    (drop o text, so.fails e.fault (drop o text) (cut.at_once behind (drop at text) e.fault (drop o text) h), omega (arith, length-drop o text))

-- the piece between two offsets was written after blanks
pub piece_written : {text out answer : List ℕ} {last : Shape} {depth : ℕ} (at end : ℕ) (s : Shape) (blanks x : List ℕ) → at < end → end ≤ length text → IsOfShape s (slice_range text at end) → Follows s (drop end text) → Separates last blanks (get_or text at 0) x → answer ≡ (out ++ x) ++ slice_range text at end → SoFar text (no_bytes blanks && is_opening last) (drop at text) out last depth → SoFar text (is_opening s) (drop end text) answer s (groups_behind s depth)
piece_written {text} {out} {answer} {last} {depth} at end s blanks x order within stands ends (spaces, fits, flag) e so =
    let front = slice_front text at end order within in
    let whole : drop at text ≡ (get_or text at 0 ∷ slice_range text (at + 1) end) ++ drop end text = slice_rest text at end (omega arith) ∙ ap (λ l. l ++ drop end text) front in
    let bytes : answer ≡ (out ++ x) ++ (get_or text at 0 ∷ slice_range text (at + 1) end) = e ∙ ap (λ l. (out ++ x) ++ l) front in
    rw bytes (over_piece s (get_or text at 0) (slice_range text (at + 1) end) x (rw front at stands) ends spaces fits flag (subst (λ l. SoFar text (no_bytes blanks && is_opening last) l out last depth) whole so))
