-- The masked text is cut into the masked tokens.
use Rattle.std.proofs.Common.{◌≡◌, ℕ, zero, suc, ◌+◌, ◌-◌, ◌<◌, ◌≤◌, List, [], ◌∷◌, ◌++◌, length, drop, refl, sym, ◌∙◌, ap, subst, arith, inr, append_assoc, length-append, Bool, false, codes, None, replicate}
use Rattle.std.proofs.Math.Seq.{drop-append-add}
use Rattle.wat_lexer.specs.Laws.Prelude.{take-append-add, Run, one_cut}
use Rattle.wat_masked.specs.Prelude.{length-replicate, drop-append_seam, Blank, IsToken, Begins, in_no_run, Idchars, Cuts, IsCut, read, Token, Placed, Keyword, Integer, tokens_of, is_open, with_i, changed, all_changed, Patch, zero_bytes, patch_of, patches, rebuilt, masked_text, IsMasked}
use Rattle.wat_masked.specs.Tokens.{changes_of}
use Rattle.wat_masked.specs.Text.{offsets_of}
use Rattle.wat_masked.specs.declared.change.Change.{Change}
use Rattle.wat_masked.proofs.Changes.{Fits, AllFit, all_fit, literal_plain, word_plain}
use Rattle.wat_masked.proofs.Closing.{closed_changed}
use Rattle.wat_masked.proofs.Starts.{SameStart, ends_run, blank_same, token_same, Some_bytes, blank_some, token_some, start_behind}
use Rattle.wat_lexer.specs.Cut as cut
use Rattle.wat_masked.specs.declared.change.Change.TheVariants as of

-- PATCHES

abbrev pub StartsFrom : ℕ → List Patch → Type 0
StartsFrom from [] = Unit {0}
StartsFrom from (p ∷ ps) = from ≤ p.at

pub starts_less : (a b : ℕ) (ps : List Patch) → a ≤ b → StartsFrom b ps → StartsFrom a ps
starts_less a b [] l h = tt
starts_less a b (p ∷ ps) l h = omega (arith, h)

pub rebuilt_front : (x s : List ℕ) (from : ℕ) (ps : List Patch) → StartsFrom (from + length x) ps → rebuilt from (x ++ s) ps ≡ x ++ rebuilt (from + length x) s ps
unfolding rebuilt
rebuilt_front x s from [] h = refl
rebuilt_front x s from (p ∷ ps) h =
    let d : p.at - from ≡ length x + (p.at - (from + length x)) = omega (arith, h) in
    let m : p.at - from + length p.bytes ≡ length x + (p.at - (from + length x) + length p.bytes) = omega (arith, h) in
    rw (m, d, take-append-add x s (p.at - (from + length x)), drop-append-add x s (p.at - (from + length x) + length p.bytes), append_assoc) refl

rebuilt_here : (q s : List ℕ) (from : ℕ) (ps : List Patch) → rebuilt from s (record { at = from; bytes = q } ∷ ps) ≡ q ++ rebuilt (from + length q) (drop (length q) s) ps
unfolding rebuilt
rebuilt_here q s from ps =
    let m : from - from + length q ≡ length q = omega arith in
    let d : from - from ≡ 0 = omega arith in
    rw (m, d) refl

-- the first bytes are replaced by the same number of bytes
pub patched : (q v y s : List ℕ) (from : ℕ) (ps : List Patch) → length q ≡ length v → StartsFrom (from + length (v ++ y)) ps → rebuilt from ((v ++ y) ++ s) (record { at = from; bytes = q } ∷ ps) ≡ (q ++ y) ++ rebuilt (from + length (v ++ y)) s ps
patched q v y s from ps e h =
    let size : from + length v + length y ≡ from + length (v ++ y) = omega (arith, length-append v y) in
    let rest : drop (length v) ((v ++ y) ++ s) ≡ y ++ s = rw (append_assoc) (drop-append_seam v (y ++ s)) in
    let more : rebuilt (from + length v) (y ++ s) ps ≡ y ++ rebuilt (from + length v + length y) s ps = rebuilt_front y s (from + length v) ps (subst (λ n. StartsFrom n ps) (sym size) h) in
    rebuilt_here q ((v ++ y) ++ s) from ps ∙ rw (e, rest, more, size, append_assoc) refl

patched_whole : (q x s : List ℕ) (from : ℕ) (ps : List Patch) → length q ≡ length x → StartsFrom (from + length x) ps → rebuilt from (x ++ s) (record { at = from; bytes = q } ∷ ps) ≡ q ++ rebuilt (from + length x) s ps
patched_whole q x s from ps e h = rebuilt_here q (x ++ s) from ps ∙ rw (e, drop-append_seam x s) refl

-- CUTS

pub record MaskedIs (n from : ℕ) (behind : Bool) (s : List ℕ) (ps : List Patch) (us : List Placed) : Type 0 where
  pub starts : StartsFrom from ps
  pub size : length (rebuilt from s ps) ≡ length s
  pub start : SameStart s (rebuilt from s ps)
  pub cuts : Cuts n behind (rebuilt from s ps) us

place_is : (n from : ℕ) (behind : Bool) (z : List ℕ) (t : Token) (us : List Placed) → from + length z ≡ n → Cuts n behind z (record { token = t; offset = n - length z } ∷ us) → Cuts n behind z (record { token = t; offset = from } ∷ us)
place_is n from behind z t us e c = let o : n - length z ≡ from = omega arith in subst (λ (i : ℕ). Cuts n behind z (record { token = t; offset = i } ∷ us)) o c

same_size : (x s z : List ℕ) → length z ≡ length s → length (x ++ z) ≡ length (x ++ s)
same_size x s z e = omega (arith, length-append x z, length-append x s)

kept : {n from : ℕ} {behind then : Bool} {ps : List Patch} {us vs : List Placed} (x s : List ℕ) → Some_bytes x → ((z : List ℕ) → SameStart s z → length z ≡ length s → Cuts n then z us → Cuts n behind (x ++ z) vs) → MaskedIs n (from + length x) then s ps us → MaskedIs n from behind (x ++ s) ps vs
kept {n} {from} {behind} {then} {ps} {us} {vs} x s some go ih =
    let z = rebuilt (from + length x) s ps in
    let front : rebuilt from (x ++ s) ps ≡ x ++ z = rebuilt_front x s from ps ih.starts in record {
      starts = starts_less from (from + length x) ps (omega arith) ih.starts;
      size = rw front (same_size x s z ih.size);
      start = rw front (start_behind x s z some);
      cuts = rw front (go z ih.start ih.size ih.cuts);
    }

blank_kept : {n from : ℕ} {behind : Bool} {ps : List Patch} {us : List Placed} (x s : List ℕ) → Blank x s → MaskedIs n (from + length x) false s ps us → MaskedIs n from behind (x ++ s) ps us
blank_kept {n} {from} {behind} {ps} {us} x s b ih = kept x s (blank_some x s b) (λ z f l c. cut.blank n behind (x ++ z) x z us refl (blank_same x s z f b) c) ih

token_kept : {n from : ℕ} {behind : Bool} {ps : List Patch} {us : List Placed} (x s : List ℕ) (t : Token) → IsToken behind x s t → from + length (x ++ s) ≡ n → MaskedIs n (from + length x) (is_open t) s ps us → MaskedIs n from behind (x ++ s) ps (record { token = t; offset = from } ∷ us)
token_kept {n} {from} {behind} {ps} {us} x s t k e ih = kept x s (token_some behind x s t k) (λ z f l c. place_is n from behind (x ++ z) t us (ap (λ i. from + i) (same_size x s z l) ∙ e) (cut.token n behind (x ++ z) x z t us refl (token_same behind x s z t f k) c)) ih

-- WORDS AND LITERALS

run_of : (x : List ℕ) → Idchars x → Run x
run_of [] h = cut.none
run_of (b ∷ y) h = cut.idchar b y h.0 (run_of y h.1)

starts_idchar : (x w s z : List ℕ) → Idchars x → 0 < length x → Idchars w → 0 < length w → SameStart (x ++ s) (w ++ z)
starts_idchar [] w s z a l b m = absurd (omega arith)
starts_idchar (c ∷ x) [] s z a l b m = absurd (omega arith)
starts_idchar (c ∷ x) (d ∷ w) s z a l b m = inr (a.0, b.0)

word_cons : (n from : ℕ) (behind : Bool) (b : ℕ) (y s : List ℕ) (ps : List Patch) (us : List Placed) → Idchars (b ∷ y) → Begins in_no_run s → from + length ((b ∷ y) ++ s) ≡ n → MaskedIs n (from + length (b ∷ y)) false s ps us → MaskedIs n from behind ((b ∷ y) ++ s) (record { at = from; bytes = 105 ∷ [] } ∷ ps) (record { token = Keyword (105 ∷ y); offset = from } ∷ us)
word_cons n from behind b y s ps us all ends e ih =
    let x = b ∷ y in
    let w = 105 ∷ y in
    let z = rebuilt (from + length x) s ps in
    let front : rebuilt from (x ++ s) (record { at = from; bytes = 105 ∷ [] } ∷ ps) ≡ w ++ z = patched (105 ∷ []) (b ∷ []) y s from ps refl ih.starts in
    let size : length (w ++ z) ≡ length (x ++ s) = omega (arith, length-append w z, length-append x s, ih.size) in
    let chars : Idchars w = (refl, all.1) in record {
      starts = omega arith;
      size = rw front size;
      start = rw front (inr (all.0, refl));
      cuts = rw front (place_is n from behind (w ++ z) (Keyword w) us (ap (λ i. from + i) size ∙ e) (cut.token n behind (w ++ z) w z (Keyword w) us refl (run_of w chars, ends_run s z ih.start ends, (refl, chars, 105, y, refl, refl)) ih.cuts));
    }

spaces_cut : (n m : ℕ) (z : List ℕ) (us : List Placed) → Cuts n false z us → Cuts n false (replicate m 32 ++ z) us
spaces_cut n zero z us c = c
spaces_cut n (suc m) z us c = cut.blank n false (32 ∷ (replicate m 32 ++ z)) (32 ∷ []) (replicate m 32 ++ z) us refl (cut.space 32 (replicate m 32 ++ z) refl) (spaces_cut n m z us c)

spaces_begin : (m : ℕ) (z : List ℕ) → Begins in_no_run z → Begins in_no_run (replicate m 32 ++ z)
spaces_begin zero z h = h
spaces_begin (suc m) z h = refl

zero_token : (behind : Bool) (z : List ℕ) → Begins in_no_run z → IsToken behind (48 ∷ []) z (Integer (codes "0"))
unfolding read
zero_token behind z h = (cut.idchar 48 [] refl cut.none, h, (refl, (refl, tt), refl))

literal_masked : (n from m : ℕ) (behind : Bool) (x s : List ℕ) (ps : List Patch) (us : List Placed) → m ≡ length x → Idchars x → 0 < length x → Begins in_no_run s → from + length (x ++ s) ≡ n → MaskedIs n (from + length x) false s ps us → MaskedIs n from behind (x ++ s) (record { at = from; bytes = zero_bytes m } ∷ ps) (record { token = Integer (codes "0"); offset = from } ∷ us)
literal_masked n from m behind x s ps us is all some ends e ih =
    let w = zero_bytes m in
    let z = rebuilt (from + length x) s ps in
    let long : length w ≡ length x = omega (arith, length-replicate {A = ℕ} (m - 1) 32) in
    let front : rebuilt from (x ++ s) (record { at = from; bytes = w } ∷ ps) ≡ w ++ z = patched_whole w x s from ps long ih.starts in
    let size : length (w ++ z) ≡ length (x ++ s) = omega (arith, length-append w z, length-append x s, ih.size) in record {
      starts = omega arith;
      size = rw front size;
      start = rw front (starts_idchar x (48 ∷ []) s (replicate (m - 1) 32 ++ z) all some (refl, tt) (omega arith));
      cuts = rw front (place_is n from behind (w ++ z) (Integer (codes "0")) us (ap (λ i. from + i) size ∙ e) (cut.token n behind (w ++ z) (48 ∷ []) (replicate (m - 1) 32 ++ z) (Integer (codes "0")) us refl (zero_token behind (replicate (m - 1) 32 ++ z) (spaces_begin (m - 1) z (ends_run s z ih.start ends))) (spaces_cut n (m - 1) z us ih.cuts)));
    }

word_masked : (n from : ℕ) (behind : Bool) (x s k : List ℕ) (ps : List Patch) (us : List Placed) → x ≡ k → Idchars x → 0 < length x → Begins in_no_run s → from + length (x ++ s) ≡ n → MaskedIs n (from + length x) false s ps us → MaskedIs n from behind (x ++ s) (record { at = from; bytes = 105 ∷ [] } ∷ ps) (record { token = with_i (Keyword k); offset = from } ∷ us)
word_masked n from behind [] s k ps us is all some ends e ih = absurd (omega arith)
word_masked n from behind (b ∷ y) s k ps us is all some ends e ih = rw (← is) (word_cons n from behind b y s ps us all ends e ih)

token_masked : (n from : ℕ) (behind : Bool) (x s : List ℕ) (t : Token) (ps : List Patch) (us : List Placed) (c : Change) → Fits c t → IsToken behind x s t → from + length (x ++ s) ≡ n → MaskedIs n (from + length x) (is_open t) s ps us → MaskedIs n from behind (x ++ s) (patch_of c from ++ ps) (record { token = changed c t; offset = from } ∷ us)
token_masked n from behind x s t ps us of.Keep f k e ih = token_kept x s t k e ih
token_masked n from behind x s t ps us of.Word (opened, h) k e ih =
    let (w, is, p) = word_plain behind opened x s t h k in
    rw is (word_masked n from behind x s w ps us (rw is at p.bytes) p.all p.some p.ends e (rw p.shut at ih))
token_masked n from behind x s t ps us (of.Literal m) (l, h) k e ih =
    let p = literal_plain behind x s t h k in
    literal_masked n from m behind x s ps us (l ∙ sym (ap length p.bytes)) p.all p.some p.ends e (rw p.shut at ih)

abbrev pub placed_changed : List Change → List Placed → List Placed
placed_changed (c ∷ cs) (p ∷ ps) = record { token = changed c p.token; offset = p.offset } ∷ placed_changed cs ps
placed_changed _ _ = []

pub masked_cut : {n : ℕ} {behind : Bool} {s : List ℕ} {ts : List Placed} → Cuts n behind s ts → (cs : List Change) (from : ℕ) → AllFit cs (tokens_of ts) → from + length s ≡ n → MaskedIs n from behind s (patches cs ts) (placed_changed cs ts)
unfolding rebuilt
masked_cut (cut.done n w) [] from f h = record { starts = tt; size = refl; start = tt; cuts = cut.done n w }
masked_cut (cut.done n w) (c ∷ cs) from f h = absurd f
masked_cut (cut.blank n w text x rest ts e b k) cs from f h = rw e (blank_kept x rest b (masked_cut k cs (from + length x) f (omega (arith, ap length e, length-append x rest))))
masked_cut (cut.token n w text x rest t ts e k more) [] from f h = absurd f
masked_cut (cut.token n w text x rest t ts e k more) (c ∷ cs) from (f, fs) h =
    let o : n - length text ≡ from = omega arith in
    rw (o, e) (token_masked n from w x rest t (patches cs ts) (placed_changed cs ts) c f k (ap (λ l. from + length l) (sym e) ∙ h) (masked_cut more cs (from + length x) fs (omega (arith, ap length e, length-append x rest))))

-- TEXTS

tokens_changed : (cs : List Change) (ts : List Placed) → AllFit cs (tokens_of ts) → tokens_of (placed_changed cs ts) ≡ all_changed cs (tokens_of ts)
tokens_changed [] [] f = refl
tokens_changed [] (p ∷ ps) f = absurd f
tokens_changed (c ∷ cs) [] f = absurd f
tokens_changed (c ∷ cs) (p ∷ ps) (f, fs) = ap (λ l. changed c p.token ∷ l) (tokens_changed cs ps fs)

offsets_changed : (cs : List Change) (ts : List Placed) → AllFit cs (tokens_of ts) → offsets_of (placed_changed cs ts) ≡ offsets_of ts
offsets_changed [] [] f = refl
offsets_changed [] (p ∷ ps) f = absurd f
offsets_changed (c ∷ cs) [] f = absurd f
offsets_changed (c ∷ cs) (p ∷ ps) (f, fs) = ap (λ l. p.offset ∷ l) (offsets_changed cs ps fs)

pub masked_size : (text : List ℕ) (ts : List Placed) → IsCut text ts → length (masked_text text ts) ≡ length text
masked_size text ts (cuts, closed) = (masked_cut cuts (changes_of (tokens_of ts)) 0 (all_fit false false None (tokens_of ts)) (omega arith)).size

pub is_masked : (text : List ℕ) (ts : List Placed) → IsCut text ts → IsMasked text (masked_text text ts)
is_masked text ts (cuts, closed) =
    let cs = changes_of (tokens_of ts) in
    let f = all_fit false false None (tokens_of ts) in
    let w = masked_cut cuts cs 0 f (omega arith) in
    let us = placed_changed cs ts in
    let same = tokens_changed cs ts f in
    (ts, us, (cuts, closed), (subst (λ n. Cuts n false (masked_text text ts) us) (sym w.size) w.cuts, rw same (closed_changed cs (tokens_of ts) f closed)), same, offsets_changed cs ts f, refl)

-- the masked text is the same for any cut of the text
by_cut : (text answer : List ℕ) (ts us : List Placed) → IsCut text ts → IsCut text us → answer ≡ masked_text text ts → answer ≡ masked_text text us
by_cut text answer ts us k j e = e ∙ ap (λ l. masked_text text l) (one_cut k.0 j.0)

pub one_masked : (text answer other : List ℕ) → IsMasked text answer → IsMasked text other → answer ≡ other
one_masked text answer other (ts, us, k, c, s, o, e) (vs, ws, j, d, r, q, h) = by_cut text answer ts vs k j e ∙ sym h

pub same_size_masked : (text answer : List ℕ) → IsMasked text answer → length answer ≡ length text
same_size_masked text answer (ts, us, k, c, s, o, e) = rw e (masked_size text ts k)
