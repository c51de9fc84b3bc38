-- Groups and heads as parts of the tokens: each leaves the last of them.
use Rattle.std.proofs.Common.{◌≡◌, ℕ, ◌+◌, ◌<◌, ◌≤◌, Bool, List, [], ◌∷◌, length, drop, refl, ap, sym, ◌∙◌, subst, arith, drop-drop, suc, inl, inr, true, false, Option, codes}
use Rattle.std.proofs.lemmas.List.{length-drop}
use Rattle.wat_core.specs.Prelude.{IsUtf8, cases_Bool, IsCut, shuts, deeper, hidden_count, Token, Placed, LParen, tokens_of, begins_lparen, begins_annotation, shown, seen, behind_one, closing, rest_by, end_by, IsPlaceOf, IsNext, IsPart, IsWithin, State}
use Rattle.wat_tokens.specs.Laws.Visible.{BeginAlike, seen_shown}
use Rattle.wat_tokens.specs.Tests.{begins_id}
use Rattle.wat_core.specs.ModuleHead.{behind_id, behind_name, behind_head}
use Rattle.wat_core.proofs.Stands.{group_part}

-- the tokens us are the last of ts
abbrev pub Ends : List Placed → List Placed → Type 0
Ends ts us = (n : ℕ) × (us ≡ drop n ts)

ends_then : (ts us vs : List Placed) → Ends ts us → Ends us vs → Ends ts vs
ends_then ts us vs (n, e) (k, f) = (n + k, f ∙ ap (drop k) e ∙ drop-drop k n ts)

pub one_ends : (known : Bool) (ts : List Placed) → Ends ts (behind_one known ts)
one_ends known ts = (hidden_count known (tokens_of ts) + 1, drop-drop 1 (hidden_count known (tokens_of ts)) ts)

closing_ends : (depth : ℕ) (ts : List Placed) → Ends ts (rest_by (closing depth ts))
unfolding closing
closing_ends depth [] = (0, refl)
closing_ends depth (p ∷ ts) = elim (cases_Bool (shuts p.token depth)) [
  | inl e ↦ rw e (1, refl)
  | inr e ↦ (let (n, f) = closing_ends (deeper p.token depth) ts in rw e (suc n, f))
]

-- the tokens after a group
pub group_ends : (ts : List Placed) → Ends ts (rest_by (closing 0 (behind_one true ts)))
group_ends ts = ends_then ts (behind_one true ts) _ (one_ends true ts) (closing_ends 0 (behind_one true ts))

pub id_ends : (ts : List Placed) → Ends ts (behind_id ts)
id_ends ts = elim (cases_Bool (begins_id (seen true ts))) [
  | inl e ↦ rw e (one_ends true ts)
  | inr e ↦ rw e (0, refl)
]

pub name_ends : (ts : List Placed) → Ends ts (behind_name ts)
name_ends ts = elim (cases_Bool (begins_annotation (codes "name") (seen true ts))) [
  | inl e ↦ rw e (group_ends ts)
  | inr e ↦ rw e (0, refl)
]

-- the tokens after the identifier and the name
pub named_ends : (ts : List Placed) → Ends ts (behind_name (behind_id ts))
named_ends ts = ends_then ts (behind_id ts) _ (id_ends ts) (name_ends (behind_id ts))

pub head_ends : (ts : List Placed) → Ends ts (behind_head ts)
head_ends ts =
    let us = behind_one false ts in
    let vs = behind_one true us in
    ends_then ts us _ (one_ends false ts) (ends_then us vs _ (one_ends true us) (named_ends vs))

pub ends_few : {ts us : List Placed} {n : ℕ} → Ends ts us → length ts ≤ n → length us ≤ n
ends_few {ts} {us} {n} (k, e) le = rw e (omega (arith, length-drop k ts))

-- ---- the next group

open_first : (l : List Token) (us : List Placed) (from : ℕ) → BeginAlike l us → begins_lparen l ≡ true → IsPlaceOf from us → us ≡ record { token = LParen; offset = from } ∷ drop 1 us
open_first (LParen ∷ l) (p ∷ us) from same opens at = ap (λ (q : Token × ℕ). record { token = q.0; offset = q.1 } ∷ us) {x = (p.token, p.offset)} {y = (LParen, from)} (cc)
open_first (LParen ∷ l) [] from same opens at = absurd same
open_first _ us from same opens at = absurd cc

-- the group that is next, by the offset of its `(` and by its `)`
pub record Found (text : List ℕ) (ts : List Placed) (from : ℕ) (o : Option (ℕ × List Placed)) : Type 0 where
  pub next : IsNext (length text) ts (record { from = from; end = end_by (length text) o }) (rest_by o)
  pub part : IsPart text (record { from = from; end = end_by (length text) o })
  pub last : (all : List Placed) × (i : ℕ) × IsCut text all × (rest_by o ≡ drop i all)
  pub less : length (rest_by o) < length ts

pub found : (text : List ℕ) (p : State) (from : ℕ) (o : Option (ℕ × List Placed)) → IsUtf8 text → IsWithin text p → begins_lparen p.left ≡ true → IsPlaceOf from (shown p.known p.rest) → closing 0 (behind_one p.known p.rest) ≡ o → Found text p.rest from o
found text p from o u within opens at closes =
    let ts = p.rest in
    let is : closing 0 (behind_one true ts) ≡ o = subst (λ (k : Bool). closing 0 (behind_one k ts) ≡ o) within.known closes in
    let h = hidden_count true (tokens_of ts) in
    let (all, i, cut, e) = within.last in
    let front : shown true ts ≡ record { token = LParen; offset = from } ∷ behind_one true ts = open_first (seen true ts) (shown true ts) from (seen_shown true ts) (ap (λ (t : List Token). begins_lparen t) (sym within.left) ∙ opens) (subst (λ (k : Bool). IsPlaceOf from (shown k ts)) within.known at) in
    let placed : drop (i + h) all ≡ record { token = LParen; offset = from } ∷ behind_one true ts = sym (drop-drop h i all) ∙ ap (drop h) (sym e) ∙ front in
    let (n, f) = closing_ends 0 (behind_one true ts) in
    let rest : rest_by o ≡ drop n (behind_one true ts) = ap rest_by (sym is) ∙ f in
    record {
      next = (behind_one true ts, front, ap (end_by (length text)) (sym is), ap rest_by (sym is));
      part = rw is at (group_part text all (behind_one true ts) (i + h) from u cut placed);
      last = (all, i + h + 1 + n, cut, rest ∙ ap (drop n) (drop-drop 1 h ts ∙ ap (drop (h + 1)) e ∙ drop-drop (h + 1) i all) ∙ drop-drop n (i + (h + 1)) all ∙ ap (λ (k : ℕ). drop k all) (omega arith));
      less = rw rest (omega (arith, length-drop n (behind_one true ts), length-drop 1 (shown true ts), length-drop h ts, ap length front));
    }

-- the parser q is after that group
pub within_still : (text : List ℕ) (p q : State) (from : ℕ) (o : Option (ℕ × List Placed)) → q ≡ record p { rest = q.rest; left = seen p.known q.rest } → q.rest ≡ rest_by o → IsWithin text p → Found text p.rest from o → IsWithin text q
within_still text p q from o is rest within f =
    let (all, i, cut, e) = f.last in
    record {
      known = ap (λ (s : State). s.known) is ∙ within.known;
      left = ap (λ (s : State). s.left) is ∙ ap (λ (k : Bool). seen k q.rest) within.known;
      last = (all, i, cut, rest ∙ e);
    }
