-- The invariant of the text and the output while the output is written.
use Rattle.std.proofs.Common.{◌≡◌, ℕ, zero, suc, ◌+◌, ◌-◌, ◌<◌, ◌≤◌, List, [], ◌∷◌, ◌++◌, length, drop, get_or, refl, sym, ◌∙◌, ap, subst, arith, append_assoc, append-nil, length-append, length-drop, drop-drop, drop-cons, add-one, get_or-drop, Bool, true, false, slice_range, None}
use Rattle.wat_lexer.specs.Laws.Prelude.{IsCharBoundary, IsCharBoundary-start, IsCharBoundary-before_ascii, IsCharBoundary-after_ascii, tokens_of-placed, placed_of, idchar_ascii}
use Rattle.wat_masked.specs.Prelude.{IsUtf8, drop-append_seam, length-replicate, is_idchar, IsToken, Idchars, Cuts, begins_hidden_group, visible_tokens, hidden_count, Token, Placed, Entry, is_open, no_entry, placed, entry_tokens, begins_literal, is_changed, change_of, changes, Patch, zero_bytes, patch_of, patches, rebuilt, masked_text}
use Rattle.wat_masked.specs.Written.{written, written_to, size_of}
use Rattle.wat_masked.specs.declared.change.Change.{Change}
use Rattle.wat_masked.proofs.Changes.{Fits, fits, Plain, literal_plain, word_plain}
use Rattle.wat_masked.proofs.Seen.{skip_patches}
use Rattle.wat_lexer.specs.Cut as cut
use Rattle.wat_masked.specs.declared.change.Change.TheVariants as of

-- THE FIRST TOKEN

pub record FirstAt (text : List ℕ) (at : ℕ) (p : Placed) (ps : List Placed) : Type 0 where
  pub behind : Bool
  pub bytes : List ℕ
  pub after : at ≤ p.offset
  pub within : p.offset + length bytes ≤ length text
  pub stands : drop p.offset text ≡ bytes ++ drop (p.offset + length bytes) text
  pub token : IsToken behind bytes (drop (p.offset + length bytes) text) p.token
  pub cuts : Cuts (length text) (is_open p.token) (drop (p.offset + length bytes) text) ps

passed : (text x rest : List ℕ) (at : ℕ) → at ≤ length text → drop at text ≡ x ++ rest → (drop (at + length x) text ≡ rest) × (at + length x ≤ length text)
passed text x rest at h e =
    let d : drop (length x) (drop at text) ≡ rest = rw e (drop-append_seam x rest) in
    (sym (drop-drop (length x) at text) ∙ d, omega (arith, ap length e, length-append x rest, length-drop at text))

weaker : {text : List ℕ} {p : Placed} {ps : List Placed} (at more : ℕ) → FirstAt text (at + more) p ps → FirstAt text at p ps
weaker at more f = record { behind = f.behind; bytes = f.bytes; after = omega (arith, f.after); within = f.within; stands = f.stands; token = f.token; cuts = f.cuts }

first_here : (text x rest : List ℕ) (at : ℕ) (behind : Bool) (t : Token) (ps : List Placed) → at ≤ length text → drop at text ≡ x ++ rest → IsToken behind x rest t → Cuts (length text) (is_open t) rest ps → FirstAt text at (record { token = t; offset = at }) ps
first_here text x rest at behind t ps h e k c =
    let (r, w) = passed text x rest at h e in record {
      behind = behind;
      bytes = x;
      after = omega arith;
      within = w;
      stands = rw r e;
      token = rw r k;
      cuts = rw r c;
    }

first_is : (text : List ℕ) (at : ℕ) (p q : Placed) (ps qs : List Placed) → q ∷ qs ≡ p ∷ ps → FirstAt text at q qs → FirstAt text at p ps
first_is text at p q ps qs e f =
    let a : q ≡ p = cc in
    let b : qs ≡ ps = cc in
    subst (λ us. FirstAt text at p us) b (subst (λ u. FirstAt text at u qs) a f)

offset_here : (text s : List ℕ) (n at : ℕ) → n ≡ length text → s ≡ drop at text → at ≤ length text → n - length s ≡ at
offset_here text s n at l e h = omega (arith, ap length e, length-drop at text)

pub first_at : {n : ℕ} {behind : Bool} {s : List ℕ} {ts : List Placed} → Cuts n behind s ts → (text : List ℕ) (at : ℕ) (p : Placed) (ps : List Placed) → n ≡ length text → s ≡ drop at text → at ≤ length text → ts ≡ p ∷ ps → FirstAt text at p ps
first_at (cut.done n w) text at p ps l e h is = cc
first_at (cut.blank n w s x rest ts d b c) text at p ps l e h is =
    let (r, k) = passed text x rest at h (sym e ∙ d) in
    weaker at (length x) (first_at c text (at + length x) p ps l (sym r) k is)
first_at (cut.token n w s x rest t us d k c) text at p ps l e h is =
    first_is text at p _ ps us is (rw (offset_here text s n at l e h) (first_here text x rest at w t us h (sym e ∙ d) k (subst (λ m. Cuts m (is_open t) rest us) l c)))

-- EDGES

idchar_at : (x : List ℕ) (k : ℕ) → Idchars x → k < length x → is_idchar (get_or x k 0) ≡ true
idchar_at [] k h l = absurd (omega arith)
idchar_at (b ∷ y) zero h l = h.0
idchar_at (b ∷ y) (suc k) h l = idchar_at y k h.1 (omega arith)

front_at : (x z : List ℕ) (k : ℕ) → k < length x → get_or (x ++ z) k 0 ≡ get_or x k 0
front_at [] z k l = absurd (omega arith)
front_at (b ∷ y) z zero l = refl
front_at (b ∷ y) z (suc k) l = front_at y z k (omega arith)

ascii_at : (text x z : List ℕ) (at k : ℕ) → drop at text ≡ x ++ z → Idchars x → k < length x → get_or text (at + k) 0 < 128
ascii_at text x z at k e h l =
    let here : get_or text (at + k) 0 ≡ get_or x k 0 = sym (get_or-drop at text k 0) ∙ rw e (front_at x z k l) in
    rw here (idchar_ascii (get_or x k 0) (idchar_at x k h l))

edge_before : (text x z : List ℕ) (at : ℕ) → drop at text ≡ x ++ z → Idchars x → 0 < length x → at + length x ≤ length text → IsCharBoundary text at
edge_before text x z at e h l w =
    let same : at + 0 ≡ at = omega arith in
    IsCharBoundary-before_ascii text at (omega arith) (subst (λ (i : ℕ). get_or text i 0 < 128) same (ascii_at text x z at 0 e h l))

edge_behind : (text x z : List ℕ) (at k : ℕ) → IsUtf8 text → drop at text ≡ x ++ z → Idchars x → 0 < k → k ≤ length x → at + length x ≤ length text → IsCharBoundary text (at + k)
edge_behind text x z at k u e h l m w =
    let same : at + (k - 1) + 1 ≡ at + k = omega arith in
    subst (λ i. IsCharBoundary text i) same (IsCharBoundary-after_ascii text (at + (k - 1)) u (omega arith) (ascii_at text x z at (k - 1) e h (omega arith)))

-- CHANGES

pub record Sized (x rest : List ℕ) (t : Token) (c : Change) : Type 0 where
  pub plain : Plain x rest t
  pub some : 0 < size_of c
  pub within : size_of c ≤ length x

sized : (behind : Bool) (x rest : List ℕ) (t : Token) (c : Change) → Fits c t → is_changed c ≡ true → IsToken behind x rest t → Sized x rest t c
sized behind x rest t of.Keep f h k = cc
sized behind x rest t of.Word (o, f) h k = let (w, is, p) = word_plain behind o x rest t f k in record { plain = p; some = omega arith; within = p.some }
sized behind x rest t (of.Literal m) (e, f) h k =
    let p = literal_plain behind x rest t f k in
    let l : m ≡ length x = e ∙ sym (ap length p.bytes) in record { plain = p; some = omega (arith, p.some); within = omega arith }

-- THE LOOP

-- the remaining tokens begin at an offset or after it
pub record Left (text : List ℕ) (from : ℕ) (ps : List Placed) : Type 0 where
  pub at : ℕ
  pub behind : Bool
  pub cuts : Cuts (length text) behind (drop at text) ps
  pub order : from ≤ at
  pub within : at ≤ length text

left_behind : (text : List ℕ) (from : ℕ) (x : Entry) (ls : List Entry) → Left text from (placed (x ∷ ls)) → Left text from (placed ls)
left_behind text from x ls l =
    let first = first_at l.cuts text l.at (placed_of x) (placed ls) refl refl l.within refl in record {
      at = x.offset + length first.bytes;
      behind = is_open x.token;
      cuts = first.cuts;
      order = omega (arith, first.after, l.order);
      within = first.within;
    }

left_later : (k : ℕ) (text : List ℕ) (from : ℕ) (ls : List Entry) → Left text from (placed ls) → Left text from (placed (drop k ls))
left_later zero text from ls l = l
left_later (suc k) text from [] l = l
left_later (suc k) text from (x ∷ ls) l = left_later k text from ls (left_behind text from x ls l)

pub record SoFar (text : List ℕ) (all ls : List Entry) (opened row : Bool) (done : ℕ) (out : List ℕ) : Type 0 where
  pub left : Left text done (placed ls)
  pub edge : IsCharBoundary text done
  pub same : out ++ rebuilt done (drop done text) (patches (changes opened row None (entry_tokens ls)) (placed ls)) ≡ masked_text text (placed all)

pub at_start : (text : List ℕ) (all : List Entry) → IsUtf8 text → Cuts (length text) false text (placed all) → SoFar text all all false false 0 []
at_start text all u c = record {
  left = record { at = 0; behind = false; cuts = c; order = omega arith; within = omega arith };
  edge = IsCharBoundary-start text u;
  same = rw (tokens_of-placed all) refl;
}

-- the state after the hidden groups
pub skipped : {text : List ℕ} {all : List Entry} {opened row : Bool} {done : ℕ} {out : List ℕ} (i next : ℕ) → next ≡ i + hidden_count false (entry_tokens (drop i all)) → SoFar text all (drop i all) opened row done out → SoFar text all (drop next all) opened row done out
skipped {text} {all} {opened} {row} {done} {out} i next e so =
    let ls = drop i all in
    let k = hidden_count false (entry_tokens ls) in
    let there : drop k ls ≡ drop next all = drop-drop k i all ∙ ap (λ n. drop n all) (sym e) in
    subst (λ l. SoFar text all l opened row done out) there (record {
      left = left_later k text done ls so.left;
      edge = so.edge;
      same = ap (λ p. out ++ rebuilt done (drop done text) p) (sym (skip_patches opened row ls)) ∙ so.same;
    })

-- the requirements of `put` for a change at an offset
pub record Ready (text : List ℕ) (done at : ℕ) (c : Change) : Type 0 where
  pub order : done ≤ at
  pub ends : is_changed c ≡ true → IsCharBoundary text at
  pub within : at + size_of c ≤ length text
  pub some : is_changed c ≡ true → 0 < size_of c

size_within : (text : List ℕ) (at : ℕ) (x rest : List ℕ) (behind : Bool) (t : Token) (c : Change) → Fits c t → IsToken behind x rest t → at + length x ≤ length text → at + size_of c ≤ length text
size_within text at x rest behind t of.Keep f k w = omega arith
size_within text at x rest behind t of.Word f k w = let s = sized behind x rest t of.Word f refl k in omega (arith, s.within)
size_within text at x rest behind t (of.Literal m) f k w = let s = sized behind x rest t (of.Literal m) f refl k in omega (arith, s.within)

pub first_of_all : {text : List ℕ} {all ls : List Entry} {opened row : Bool} {done : ℕ} {out : List ℕ} (x : Entry) (more : List Entry) → ls ≡ x ∷ more → (so : SoFar text all ls opened row done out) → FirstAt text so.left.at (placed_of x) (placed more)
first_of_all {text} x more e so = first_at so.left.cuts text so.left.at (placed_of x) (placed more) refl refl so.left.within (ap placed e)

pub ready : {text : List ℕ} {all ls : List Entry} {opened row : Bool} {done : ℕ} {out : List ℕ} (x : Entry) (more : List Entry) (c : Change) → ls ≡ x ∷ more → Fits c x.token → SoFar text all ls opened row done out → Ready text done x.offset c
ready {text} {done = done} x more c e f so =
    let first = first_of_all x more e so in record {
      order = omega (arith, first.after, so.left.order);
      ends = λ h. let s = sized first.behind first.bytes (drop (x.offset + length first.bytes) text) x.token c f h first.token in edge_before text first.bytes (drop (x.offset + length first.bytes) text) x.offset first.stands s.plain.all s.plain.some first.within;
      within = size_within text x.offset first.bytes (drop (x.offset + length first.bytes) text) first.behind x.token c f first.token first.within;
      some = λ h. (sized first.behind first.bytes (drop (x.offset + length first.bytes) text) x.token c f h first.token).some;
    }

rebuilt_step : (text : List ℕ) (done at : ℕ) (q : List ℕ) (ps : List Patch) → done ≤ at → rebuilt done (drop done text) (record { at = at; bytes = q } ∷ ps) ≡ (slice_range text done at ++ q) ++ rebuilt (at + length q) (drop (at + length q) text) ps
unfolding rebuilt
rebuilt_step text done at q ps h =
    let n : done + (at - done + length q) ≡ at + length q = omega arith in
    rw (drop-drop, n, append_assoc) refl

step_written : (text out : List ℕ) (done at : ℕ) (c : Change) (ps : List Patch) → done ≤ at → (is_changed c ≡ true → 0 < size_of c) → (out ++ written text done at c) ++ rebuilt (written_to done at c) (drop (written_to done at c) text) ps ≡ out ++ rebuilt done (drop done text) (patch_of c at ++ ps)
step_written text out done at of.Keep ps h s = rw (append-nil out) refl
step_written text out done at of.Word ps h s = rw (rebuilt_step text done at (105 ∷ []) ps h, append_assoc out) refl
step_written text out done at (of.Literal m) ps h s =
    let some : 0 < m = s refl in
    let long : length (zero_bytes m) ≡ m = omega (arith, length-replicate {A = ℕ} (m - 1) 32) in
    let step : rebuilt done (drop done text) (record { at = at; bytes = zero_bytes m } ∷ ps) ≡ (slice_range text done at ++ zero_bytes m) ++ rebuilt (at + m) (drop (at + m) text) ps = rw long at (rebuilt_step text done at (zero_bytes m) ps h) in
    rw (step, append_assoc out) refl

step_order : (done at long : ℕ) (c : Change) → done ≤ at → (is_changed c ≡ true → size_of c ≤ long) → written_to done at c ≤ at + long
step_order done at long of.Keep h s = omega arith
step_order done at long of.Word h s = let l : 1 ≤ long = s refl in omega arith
step_order done at long (of.Literal m) h s = let l : m ≤ long = s refl in omega arith

step_edge : (text x rest : List ℕ) (done at : ℕ) (behind : Bool) (t : Token) (c : Change) → IsUtf8 text → Fits c t → IsToken behind x rest t → drop at text ≡ x ++ rest → at + length x ≤ length text → IsCharBoundary text done → IsCharBoundary text (written_to done at c)
step_edge text x rest done at behind t of.Keep u f k e w b = b
step_edge text x rest done at behind t of.Word u f k e w b = let s = sized behind x rest t of.Word f refl k in edge_behind text x rest at 1 u e s.plain.all s.some s.within w
step_edge text x rest done at behind t (of.Literal m) u f k e w b = let s = sized behind x rest t (of.Literal m) f refl k in edge_behind text x rest at m u e s.plain.all s.some s.within w

patched_cons : (opened row : Bool) (x : Entry) (more : List Entry) (c : Change) → begins_hidden_group false (entry_tokens (x ∷ more)) ≡ false → c ≡ change_of opened row (begins_literal (visible_tokens false (entry_tokens more))) x.token → patches (changes opened row None (entry_tokens (x ∷ more))) (placed (x ∷ more)) ≡ patch_of c x.offset ++ patches (changes (is_open x.token) (is_changed c) None (entry_tokens more)) (placed more)
unfolding changes
patched_cons opened row x more c h is = rw (h, is) refl

patched_so : (opened row : Bool) (x : Entry) (more ls : List Entry) (c : Change) → ls ≡ x ∷ more → begins_hidden_group false (entry_tokens ls) ≡ false → c ≡ change_of opened row (begins_literal (visible_tokens false (entry_tokens more))) x.token → patches (changes opened row None (entry_tokens ls)) (placed ls) ≡ patch_of c x.offset ++ patches (changes (is_open x.token) (is_changed c) None (entry_tokens more)) (placed more)
patched_so opened row x more ls c e h is = rw e (patched_cons opened row x more c (rw e at h) is)

pub step : {text : List ℕ} {all ls : List Entry} {opened row : Bool} {done : ℕ} {out : List ℕ} (x : Entry) (more : List Entry) (c : Change) → IsUtf8 text → ls ≡ x ∷ more → begins_hidden_group false (entry_tokens ls) ≡ false → c ≡ change_of opened row (begins_literal (visible_tokens false (entry_tokens more))) x.token → SoFar text all ls opened row done out → SoFar text all more (is_open x.token) (is_changed c) (written_to done x.offset c) (out ++ written text done x.offset c)
step {text} {all} {ls} {opened} {row} {done} {out} x more c u e hidden is so =
    let f : Fits c x.token = rw is (fits opened row (begins_literal (visible_tokens false (entry_tokens more))) x.token) in
    let first = first_of_all x more e so in
    let r = ready x more c e f so in
    let rest = drop (x.offset + length first.bytes) text in record {
      left = record {
        at = x.offset + length first.bytes;
        behind = is_open x.token;
        cuts = first.cuts;
        order = step_order done x.offset (length first.bytes) c r.order (λ h. (sized first.behind first.bytes rest x.token c f h first.token).within);
        within = first.within;
      };
      edge = step_edge text first.bytes rest done x.offset first.behind x.token c u f first.token first.stands first.within so.edge;
      same = step_written text out done x.offset c (patches (changes (is_open x.token) (is_changed c) None (entry_tokens more)) (placed more)) r.order r.some ∙ ap (λ l. out ++ rebuilt done (drop done text) l) (sym (patched_so opened row x more ls c e hidden is)) ∙ so.same;
    }

pub at_end : {text : List ℕ} {all ls : List Entry} {opened row : Bool} {done : ℕ} {out : List ℕ} → ls ≡ [] → SoFar text all ls opened row done out → out ++ drop done text ≡ masked_text text (placed all)
unfolding rebuilt changes
at_end {text} {all} {ls} {opened} {row} {done} {out} e so =
    let last : patches (changes opened row None (entry_tokens ls)) (placed ls) ≡ [] = rw e refl in
    rw last at so.same

pub entry_front : (i : ℕ) (ls : List Entry) → i < length ls → drop i ls ≡ get_or ls i no_entry ∷ drop (i + 1) ls
entry_front i ls h = rw (add-one, drop-cons ls i no_entry)
