-- A text has one outcome: its cut or its first fault.
use Rattle.std.proofs.Common.{◌≡◌, ℕ, zero, suc, ◌-◌, ◌<◌, List, [], ◌∷◌, length, drop, refl, ap, sym, ◌∙◌, arith, true, false}
use Rattle.wat_lexer.specs.Laws.Prelude.{or_parts, drop-map, offset_of, begins_annotation_group, Entry, Token, LParen, Annotation, Placed, tokens_of, is_annotation, has_annotation, entry_tok, entry_tokens, placed, AreSkips, tokens_of-placed, Cuts, IsCut, Closed, Unclosed, FirstUnclosed, FirstFault, cutting, closing}
use Rattle.wat_lexer.specs.declared.fault.Error.{Error}
use Rattle.wat_lexer.specs.declared.fault.Fault.TheVariants.{LexAnnotation}
use Rattle.wat_lexer.specs.declared.fault.Fault.{Fault}
use Rattle.wat_lexer.specs.Laws.Fronts as fronts

-- two places that are both the first are the same place
same_place : (P : ℕ → Type 0) (i j : ℕ) → P i → P j → ((k : ℕ) → k < i → P k → ⊥) → ((k : ℕ) → k < j → P k → ⊥) → i ≡ j
same_place P i j p q before_i before_j = grind arith

one_unclosed : (ts : List Placed) (a b : ℕ) → FirstUnclosed ts a → FirstUnclosed ts b → a ≡ b
one_unclosed ts a b (i, t, here, at, p, before) (j, u, there, place, q, before_too) =
    let same = same_place (Unclosed (tokens_of ts)) i j p q before before_too in cc

pub one_fault : (text : List ℕ) (f g : Fault) (i j : ℕ) → FirstFault text f i → FirstFault text g j → (f ≡ g) × (i ≡ j)
one_fault text f g i j (cutting t a at h) (cutting u b q k) =
    let (same, place) = fronts.one_failure h k in (same, ap (λ r. length t - length r) place)
one_fault text f g i j (cutting t a at h) (closing u ts offset c k) = absurd (fronts.no_cut h c)
one_fault text f g i j (closing u ts offset c k) (cutting t a at h) = absurd (fronts.no_cut h c)
one_fault text f g i j (closing t ts a c h) (closing u us b d k) =
    let same = fronts.one_cut c d in
    (refl, one_unclosed us a b (rw same at h) k)

pub no_cut : (text : List ℕ) (f : Fault) (i : ℕ) (ts : List Placed) → FirstFault text f i → IsCut text ts → ⊥
no_cut text f i ts (cutting t a at h) k = fronts.no_cut h k.0
no_cut text f i ts (closing t us offset c (j, u, here, at, p, before)) k =
    let same = fronts.one_cut c k.0 in
    k.1 j (rw same at p)

-- the first group that isn't closed is the first fault
pub left_open : {text : List ℕ} {ts : List Placed} {offset : ℕ} (e : Error) → Cuts (length text) false text ts → FirstUnclosed ts offset → e.fault ≡ LexAnnotation → offset_of e.span ≡ offset → FirstFault text e.fault (offset_of e.span)
left_open {text} {ts} {offset} e c first f place = rw (f, place) (closing text ts offset c first)

none_noted : (ts : List Token) → has_annotation ts ≡ false → (i : ℕ) → begins_annotation_group (drop i ts) ≡ false
none_noted [] e zero = refl
none_noted [] e (suc i) = refl
none_noted (x ∷ ts) e (suc i) = none_noted ts (or_parts (is_annotation x) (has_annotation ts) e).1 i
none_noted (LParen ∷ Annotation n ∷ ts) e zero = absurd (let f : true ≡ false = e in cc)
none_noted (LParen ∷ []) e zero = refl
none_noted (LParen ∷ _ ∷ ts) e zero = refl
none_noted (_ ∷ ts) e zero = refl

-- if no token is an annotation, all annotation groups are closed
pub closed_anyway : (ls : List Entry) → has_annotation (entry_tokens ls) ≡ false → Closed (tokens_of (placed ls))
closed_anyway ls e i (n, r, is, unclosed_group) =
    let f : true ≡ false = ap begins_annotation_group (sym is) ∙ rw (tokens_of-placed ls) (none_noted (entry_tokens ls) e i) in cc

pub told_anyway : (ls : List Entry) → has_annotation (entry_tokens ls) ≡ false → AreSkips ls
told_anyway ls e = λ known i h.
    let none : begins_annotation_group (entry_tokens (drop i ls)) ≡ false = rw (← drop-map entry_tok i ls) (none_noted (entry_tokens ls) e i) in
    absurd (let f = rw none at h in cc)
