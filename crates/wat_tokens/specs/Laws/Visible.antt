-- Laws: the first visible token, and the tokens after it.
use Rattle.std.proofs.Common.{◌≡◌, ℕ, zero, suc, ◌+◌, Bool, List, [], ◌∷◌, drop, refl, ap, sym, ◌∙◌, inl, inr, drop-drop, Option, Some, None}
use Rattle.std.proofs.lemmas.List.{drop-map}
use Rattle.wat_lexer.specs.Laws.Prelude.{cases_Bool}
use Rattle.wat_lexer.specs.Prelude.{Token, Placed, tokens_of, begins_hidden_group, shuts, deeper}
use Rattle.wat_lexer.specs.Sight.{visible, visible_tokens, hidden_count_at, hidden_count}
use Rattle.wat_tokens.specs.State.{behind}
use Rattle.wat_tokens.specs.Visible.{shown, seen, behind_one, placed_behind}

-- the lists begin with the same token, or both are empty
abbrev pub BeginAlike : List Token → List Placed → Type 0
BeginAlike [] [] = Unit {0}
BeginAlike (x ∷ l) (p ∷ ts) = x ≡ p.token
BeginAlike [] (p ∷ ts) = ⊥
BeginAlike (x ∷ l) [] = ⊥

seen_shown_at : (known : Bool) (place : Option ℕ) (ts : List Placed)
    → BeginAlike (visible known place (tokens_of ts))
    (drop (hidden_count_at known place (tokens_of ts)) ts)
unfolding visible hidden_count_at
seen_shown_at known None [] = tt
seen_shown_at known (Some d) [] = tt
seen_shown_at known None (p ∷ ts) =
    elim (cases_Bool (begins_hidden_group known (tokens_of (p ∷ ts)))) [
      | inl h ↦ rw h (seen_shown_at known (Some 0) ts)
      | inr h ↦ rw h refl
    ]
seen_shown_at known (Some d) (p ∷ ts) = elim (cases_Bool (shuts p.token d)) [
  | inl h ↦ rw h (seen_shown_at known None ts)
  | inr h ↦ rw h (seen_shown_at known (Some (deeper p.token d)) ts)
]

-- the first visible token is the first of the tokens from it on
pub seen_shown : (known : Bool) (ts : List Placed) → BeginAlike (seen known ts) (shown known ts)
unfolding visible_tokens hidden_count
seen_shown known ts = seen_shown_at known None ts

-- the tokens after the first n visible tokens, without their offsets
pub tokens_behind : (known : Bool) (n : ℕ) (ts : List Placed)
    → tokens_of (placed_behind known n ts) ≡ behind known n (tokens_of ts)
unfolding behind placed_behind
tokens_behind known zero ts = refl
tokens_behind known (suc n) ts =
    let h = hidden_count known (tokens_of ts) in
    let one : tokens_of (behind_one known ts) ≡ drop (h + 1) (tokens_of ts) =
    ap tokens_of (drop-drop 1 h ts) ∙ sym (drop-map (λ (p : Placed). p.token) (h + 1) ts) in
    tokens_behind known n (behind_one known ts) ∙ ap (λ (t : List Token). behind known n t) one
