-- Laws: the visible tokens with their offsets, and the `)` that closes a group.
use Rattle.std.proofs.Common.{◌≡◌, ℕ, zero, suc, ◌+◌, true, false, List, [], ◌∷◌, drop, refl, ap, sym, ◌∙◌, inl, inr, Option, Some, None, arith, subst}
use Rattle.wat_lexer.specs.Laws.Prelude.{cases_Bool}
use Rattle.wat_lexer.specs.Prelude.{Token, Placed, LParen, RParen, tokens_of, begins_hidden_group, shuts, deeper}
use Rattle.wat_lexer.specs.Sight.{visible, visible_tokens, hidden_count_at, hidden_count}
use Rattle.wat_tokens.specs.Visible.{shown, seen, behind_one, closing}
use Rattle.wat_scripts.specs.Visible.{visible_at, visible_placed}

-- ---- without offsets they are the tokens that a parser sees

seen_at : (place : Option ℕ) (ts : List Placed)
    → tokens_of (visible_at false place ts) ≡ visible false place (tokens_of ts)
unfolding visible_at visible
seen_at None [] = refl
seen_at (Some d) [] = refl
seen_at None (p ∷ ts) =
    elim (cases_Bool (begins_hidden_group false (tokens_of (p ∷ ts)))) [
      | inl h ↦ rw h (seen_at (Some 0) ts)
      | inr h ↦ rw h (ap (λ (t : List Token). p.token ∷ t) (seen_at None ts))
    ]
seen_at (Some d) (p ∷ ts) = elim (cases_Bool (shuts p.token d)) [
  | inl h ↦ rw h (seen_at None ts)
  | inr h ↦ rw h (seen_at (Some (deeper p.token d)) ts)
]

pub seen_is : (ts : List Placed) → tokens_of (visible_placed ts) ≡ seen false ts
unfolding visible_placed visible_tokens
seen_is ts = seen_at None ts

-- ---- the first of them

-- the visible tokens, if the first token is visible
abbrev pub from_first : List Placed → List Placed
from_first [] = []
from_first (p ∷ ts) = p ∷ visible_placed ts

shown_at : (place : Option ℕ) (ts : List Placed)
    → visible_at false place ts ≡ from_first (drop (hidden_count_at false place (tokens_of ts)) ts)
unfolding visible_at visible_placed hidden_count_at
shown_at None [] = refl
shown_at (Some d) [] = refl
shown_at None (p ∷ ts) =
    elim (cases_Bool (begins_hidden_group false (tokens_of (p ∷ ts)))) [
      | inl h ↦ rw h (shown_at (Some 0) ts)
      | inr h ↦ rw h refl
    ]
shown_at (Some d) (p ∷ ts) = elim (cases_Bool (shuts p.token d)) [
  | inl h ↦ rw h (shown_at None ts)
  | inr h ↦ rw h (shown_at (Some (deeper p.token d)) ts)
]

pub shown_is : (ts : List Placed) → visible_placed ts ≡ from_first (shown false ts)
unfolding visible_placed hidden_count
shown_is ts = shown_at None ts

behind_first : (us : List Placed) → visible_placed (drop 1 us) ≡ drop 1 (from_first us)
unfolding visible_placed visible_at
behind_first [] = refl
behind_first (p ∷ us) = refl

pub behind_is : (ts : List Placed) → visible_placed (behind_one false ts) ≡ drop 1 (visible_placed ts)
behind_is ts = behind_first (shown false ts) ∙ ap (λ (us : List Placed). drop 1 us) (sym (shown_is ts))

-- ---- the `)` of a group

-- the same, with the visible tokens after it
abbrev pub closed_visible : Option (ℕ × List Placed) → Option (ℕ × List Placed)
closed_visible (Some c) = Some (c.0, visible_placed c.1)
closed_visible None = None

-- the number of open groups, those of the hidden group at the place included
abbrev open_at_place : ℕ → Option ℕ → ℕ
open_at_place depth None = depth
open_at_place depth (Some d) = suc (depth + d)

hidden_opens : (t : Token) (r : List Token) → begins_hidden_group false (t ∷ r) ≡ true
    → t ≡ LParen
hidden_opens LParen r h = refl
hidden_opens _ r h = absurd cc

stays_open : (t : Token) (n : ℕ) → shuts t (suc n) ≡ false
stays_open RParen n = refl
stays_open _ n = refl

-- after the `)` of a hidden group
behind_hidden : (t : Token) (depth d : ℕ) → shuts t d ≡ true → deeper t (suc (depth + d)) ≡ depth
behind_hidden RParen depth zero h = omega arith
behind_hidden RParen depth (suc d) h = absurd cc
behind_hidden _ depth d h = absurd cc

-- within a hidden group
within_hidden : (t : Token) (depth d : ℕ) → shuts t d ≡ false
    → deeper t (suc (depth + d)) ≡ suc (depth + deeper t d)
within_hidden LParen depth d h = omega arith
within_hidden RParen depth zero h = absurd cc
within_hidden RParen depth (suc d) h = omega arith
within_hidden _ depth d h = refl

closing_at : (depth : ℕ) (place : Option ℕ) (ts : List Placed)
    → closed_visible (closing (open_at_place depth place) ts)
    ≡ closing depth (visible_at false place ts)
unfolding visible_at visible_placed closing
closing_at depth None [] = refl
closing_at depth (Some d) [] = refl
closing_at depth None (p ∷ ts) =
    elim (cases_Bool (begins_hidden_group false (tokens_of (p ∷ ts)))) [
      | inl h ↦ rw (h, hidden_opens p.token (tokens_of ts) h)
          (subst (λ (n : ℕ). closed_visible (closing n ts) ≡ closing depth (visible_at false (Some 0) ts))
          {x = suc (depth + 0)} {y = depth + 1} (omega arith) (closing_at depth (Some 0) ts))
      | inr h ↦ rw h (elim (cases_Bool (shuts p.token depth)) [
        | inl e ↦ rw e refl
        | inr e ↦ rw e (closing_at (deeper p.token depth) None ts)
      ])
    ]
closing_at depth (Some d) (p ∷ ts) = elim (cases_Bool (shuts p.token d)) [
  | inl e ↦ rw (e, stays_open p.token (depth + d), behind_hidden p.token depth d e)
      (closing_at depth None ts)
  | inr e ↦ rw (e, stays_open p.token (depth + d), within_hidden p.token depth d e)
      (closing_at depth (Some (deeper p.token d)) ts)
]

-- among the visible tokens a group ends where it ends among all
pub closing_is : (ts : List Placed)
    → closed_visible (closing 0 ts) ≡ closing 0 (visible_placed ts)
unfolding visible_placed
closing_is ts = closing_at 0 None ts
