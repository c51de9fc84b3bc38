-- The next token, and the tokens after it.
use Rattle.std.proofs.Common.{inl, inr, refl, ◌≡◌, ◌≢◌, ℕ, ◌+◌, ◌<◌, ◌≤◌, Bool, List, [], ◌∷◌, length, drop, sym, ap, ◌∙◌, arith, drop-drop, false, None, get_or, subst, min}
use Rattle.std.proofs.lemmas.List.{drop_all, length-map}
use Rattle.wat_lexer.specs.Laws.Prelude.{cases_lt, cases_Bool, drop-map, tokens_of-placed, Token, Placed, Entry, LParen, RParen, Annotation, is_open, is_close, is_annotation, open_is, close_is, visible, visible_tokens, hidden_count, hidden_count_at, begins_hidden_group, tokens_of, placed, placed_of, entry_tokens, no_entry, VisibleFrom, hidden_count_none}
use Rattle.wat_lexer.specs.Laws.Hidden.{begins_hidden_few, begins_hidden_other}
use Rattle.wat_lexer.specs.Laws.Kinds.{token_at}
use Rattle.wat_lexer.specs.Laws.VisibleFrom.{visible_some, visible_none}
use Rattle.wat_tokens.specs.Tests.{ends, as_lparen, as_rparen, as_annotation}
use Rattle.wat_tokens.specs.Visible.{shown, behind_one, IsPlaceOf}

-- if a token is visible from the index on, the index is that of a token
pub stands_before : (known : Bool) (ls : List Entry) (i : ℕ) (left : List Token) → VisibleFrom known (drop i ls) left → left ≢ [] → i < length ls
stands_before known ls i left s some =
    elim (cases_lt i (length ls)) [
      | inl lt ↦ lt
      | inr le ↦ absurd (some (visible_none known ls i left s le))
    ]

-- the tokens visible after that token are visible from the next index on
pub steps_to : (known : Bool) (ls : List Entry) (i : ℕ) (left : List Token) → VisibleFrom known (drop i ls) left → i < length ls → visible_tokens known (entry_tokens (drop (i + 1) ls)) ≡ drop 1 left
steps_to known ls i left s lt = ap (drop 1) (sym (visible_some known ls i left s lt))

-- the tokens from an index on, with and without their offsets
pub entry_tokens_from : (ls : List Entry) (i : ℕ) → tokens_of (drop i (placed ls)) ≡ entry_tokens (drop i ls)
entry_tokens_from ls i = ap tokens_of (drop-map placed_of i ls) ∙ tokens_of-placed (drop i ls)

pub ruleset placed_steps = (entry_tokens_from, tokens_of-placed)

-- the tokens from the first visible token on
pub shown_from : (known : Bool) (ls : List Entry) (at r : ℕ) → r ≡ at + hidden_count known (entry_tokens (drop at ls)) → drop r (placed ls) ≡ shown known (drop at (placed ls))
shown_from known ls at r e =
    let ps = placed ls in
    ap (λ (k : ℕ). drop k ps) e ∙ sym (drop-drop (hidden_count known (entry_tokens (drop at ls))) at ps) ∙ ap (λ (ts : List Token). drop (hidden_count known ts) (drop at ps)) (sym (entry_tokens_from ls at))

-- the tokens after the next token are the tokens from the index after it
pub rest_behind : (known : Bool) (ls : List Entry) (i r : ℕ) → r ≡ i + hidden_count known (entry_tokens (drop i ls)) → drop (r + 1) (placed ls) ≡ behind_one known (drop i (placed ls))
rest_behind known ls i r e = sym (drop-drop 1 r (placed ls)) ∙ ap (λ (l : List Placed). drop 1 l) (shown_from known ls i r e)

-- no token is after the last token
pub past : (ls : List Entry) (i : ℕ) → length ls ≤ i → drop i (placed ls) ≡ []
past ls i h = drop_all i (placed ls) (omega (arith, length-map ls placed_of))

-- the same up to the number of tokens
pub pass_behind : (known : Bool) (ls : List Entry) (i r : ℕ) → r ≡ i + hidden_count known (entry_tokens (drop i ls)) → drop (min (r + 1) (length ls)) (placed ls) ≡ behind_one known (drop i (placed ls))
pass_behind known ls i r e = elim (cases_lt r (length ls)) [
  | inl lt ↦ ap (λ (k : ℕ). drop k (placed ls)) {x = min (r + 1) (length ls)} {y = r + 1} (omega (arith, lt)) ∙ rest_behind known ls i r e
  | inr le ↦ past ls (min (r + 1) (length ls)) (omega (arith, le)) ∙ sym (past ls (r + 1) (omega (arith, le))) ∙ rest_behind known ls i r e
]

pub ruleset pass_steps = (pass_behind)

-- the offset of the first visible token
pub place_here : (known : Bool) (ls : List Entry) (i f n : ℕ) → f ≡ i + hidden_count known (entry_tokens (drop i ls)) → f < length ls → n ≡ (get_or ls f no_entry).offset → IsPlaceOf n (shown known (drop i (placed ls)))
place_here known ls i f n e lt h = subst (IsPlaceOf n) (sym (token_at ls f lt) ∙ shown_from known ls i f e) h

pub place_none : (known : Bool) (ls : List Entry) (i f n : ℕ) → f ≡ i + hidden_count known (entry_tokens (drop i ls)) → length ls ≤ f → IsPlaceOf n (shown known (drop i (placed ls)))
place_none known ls i f n e le = subst (IsPlaceOf n) (sym (past ls f le) ∙ shown_from known ls i f e) tt

-- the visible tokens begin with the first of the list, if that token is not hidden
shown_here : (known : Bool) (ls : List Entry) → hidden_count known (entry_tokens ls) ≡ 0 → VisibleFrom known ls (visible_tokens known (entry_tokens ls))
unfolding visible_tokens visible hidden_count hidden_count_at
shown_here known [] h = refl
shown_here known (x ∷ ls) h =
    elim (cases_Bool (begins_hidden_group known (entry_tokens (x ∷ ls)))) [
      | inl e ↦ absurd (omega (arith, rw e at h))
      | inr e ↦ rw e
    ]

-- WHERE NOTHING IS HIDDEN

-- where fewer than two tokens are left
pub shown_few : (known : Bool) (ls : List Entry) (i : ℕ) → length ls ≤ i + 1 → hidden_count known (entry_tokens (drop i ls)) ≡ 0
shown_few known ls i h = hidden_count_none known (entry_tokens (drop i ls)) (begins_hidden_few known ls i h)

-- where no annotation is the second
pub shown_other : (known : Bool) (ls : List Entry) (i : ℕ) → i + 1 < length ls → is_annotation ((get_or ls (i + 1) no_entry).token) ≡ false → hidden_count known (entry_tokens (drop i ls)) ≡ 0
shown_other known ls i lt h = hidden_count_none known (entry_tokens (drop i ls)) (begins_hidden_other known ls i lt h)

-- the index is that of the first visible token
pub shown_at : (known : Bool) (ls : List Entry) (i : ℕ) → hidden_count known (entry_tokens (drop i ls)) ≡ 0 → VisibleFrom known (drop i ls) (visible_tokens known (entry_tokens (drop i ls)))
shown_at known ls i h = shown_here known (drop i ls) h

pub ruleset sight_steps = (shown_few, shown_other, shown_at)

-- the visible tokens from the index of the first visible token on
pub ruleset visible_steps = (visible_some, visible_none)

-- rules for one step
pub ruleset advance_steps = (stands_before, steps_to, rest_behind)

-- a lookup sees the token at its index, if the index is that of a token
pub front_some : (known : Bool) (ls : List Entry) (i : ℕ) → hidden_count known (entry_tokens (drop i ls)) ≡ 0 → i < length ls
    → visible_tokens known (entry_tokens (drop i ls)) ≡ (get_or ls i no_entry).token ∷ visible_tokens known (entry_tokens (drop (i + 1) ls))
front_some known ls i h lt = visible_some known ls i (visible_tokens known (entry_tokens (drop i ls))) (shown_here known (drop i ls) h) lt

pub front_none : (known : Bool) (ls : List Entry) (i : ℕ) → hidden_count known (entry_tokens (drop i ls)) ≡ 0 → length ls ≤ i
    → visible_tokens known (entry_tokens (drop i ls)) ≡ []
front_none known ls i h le = visible_none known ls i (visible_tokens known (entry_tokens (drop i ls))) (shown_here known (drop i ls) h) le

pub ruleset front_steps = (front_some, front_none)

-- THE KIND OF A TOKEN

pub ends_first : (t : Token) (r : List Token) → ends (t ∷ r) ≡ is_close t
ends_first RParen r = refl
ends_first _ r = refl

pub open_none : (t : Token) → is_open t ≡ false → as_lparen t ≡ None
open_none LParen e = absurd cc
open_none _ e = refl

pub close_none : (t : Token) → is_close t ≡ false → as_rparen t ≡ None
close_none RParen e = absurd cc
close_none _ e = refl

pub annotation_none : (t : Token) → is_annotation t ≡ false → as_annotation t ≡ None
annotation_none (Annotation n) e = absurd cc
annotation_none _ e = refl

pub ruleset paren_steps = (ends_first, open_is, close_is, open_none, close_none)
