-- Laws: the visible tokens if no annotation is known, and if the five names are known.
use Rattle.std.proofs.Common.{◌≡◌, ℕ, ◌+◌, Bool, true, false, List, [], ◌∷◌, ◌++◌, drop, refl, ap, ◌∙◌, arith, inl, inr, length, sym, subst, append_assoc, ◌≤◌, Option, Some, None, zero, suc, ◌&&◌, not}
use Rattle.wat_fields.specs.Prelude.{cases_Bool, begins_hidden_group, begins_annotation_group, shuts, deeper, visible, visible_tokens, hidden_count_at, hidden_count, behind, Token, LParen, RParen}
use Rattle.wat_tokens.specs.Sight.{annotation_name, is_standard}

-- ---- the visible tokens after a token

past : (n : ℕ) (x : Token) (r : List Token) → drop (suc n + 1) (x ∷ r) ≡ drop (n + 1) r
past n x r = ap (λ (k : ℕ). drop k (x ∷ r)) {x = suc n + 1} {y = suc (n + 1)} (omega arith)

seen_behind_at : (known : Bool) (place : Option ℕ) (t : List Token) (x : Token) (l : List Token)
    → visible known place t ≡ x ∷ l
    → visible known None (drop (hidden_count_at known place t + 1) t) ≡ l
unfolding visible hidden_count_at
seen_behind_at known None [] x l e = cc
seen_behind_at known (Some d) [] x l e = cc
seen_behind_at known None (y ∷ r) x l e = elim (cases_Bool (begins_hidden_group known (y ∷ r))) [
  | inl h ↦ (let f : visible known (Some 0) r ≡ x ∷ l = rw h at e in
      rw h (ap (visible known None) (past (hidden_count_at known (Some 0) r) y r)
      ∙ seen_behind_at known (Some 0) r x l f))
  | inr h ↦ (let f : y ∷ visible known None r ≡ x ∷ l = rw h at e in rw h cc)
]
seen_behind_at known (Some d) (y ∷ r) x l e = elim (cases_Bool (shuts y d)) [
  | inl h ↦ (let f : visible known None r ≡ x ∷ l = rw h at e in
      rw h (ap (visible known None) (past (hidden_count_at known None r) y r)
      ∙ seen_behind_at known None r x l f))
  | inr h ↦ (let f : visible known (Some (deeper y d)) r ≡ x ∷ l = rw h at e in
      rw h (ap (visible known None) (past (hidden_count_at known (Some (deeper y d)) r) y r)
      ∙ seen_behind_at known (Some (deeper y d)) r x l f))
]

-- the visible tokens after the first visible token are the rest of the visible tokens
pub seen_behind : (known : Bool) (t : List Token) (x : Token) (l : List Token)
    → visible_tokens known t ≡ x ∷ l → visible_tokens known (behind known 1 t) ≡ l
unfolding visible_tokens hidden_count behind
seen_behind known t x l e = seen_behind_at known None t x l e

-- the same after several visible tokens
pub seen_behind_all : (known : Bool) (c t l : List Token) → visible_tokens known t ≡ c ++ l
    → visible_tokens known (behind known (length c) t) ≡ l
unfolding behind
seen_behind_all known [] t l e = e
seen_behind_all known (x ∷ c) t l e =
    seen_behind_all known c (behind known 1 t) l (seen_behind known t x (c ++ l) e)

-- ---- a token that is hidden with the five names is hidden without them

first_so : (a b : Bool) → (a && b) ≡ true → a ≡ true
first_so true b e = refl
first_so false b e = cc

pub begins_hidden_anyway : (t : List Token) → begins_hidden_group true t ≡ true
    → begins_hidden_group false t ≡ true
begins_hidden_anyway t h =
    rw (first_so (begins_annotation_group t) (not (true && is_standard (annotation_name t))) h) refl

shown_anyway : (t : List Token) → begins_hidden_group false t ≡ false
    → begins_hidden_group true t ≡ false
shown_anyway t h = elim (cases_Bool (begins_hidden_group true t)) [
  | inl k ↦ (let f = begins_hidden_anyway t k in absurd cc)
  | inr k ↦ k
]

none_at : (place : Option ℕ) (t : List Token) → visible true place t ≡ []
    → visible false place t ≡ []
unfolding visible
none_at None [] e = refl
none_at (Some d) [] e = refl
none_at None (y ∷ r) e = elim (cases_Bool (begins_hidden_group true (y ∷ r))) [
  | inl h ↦ (let f : visible true (Some 0) r ≡ [] = rw h at e in
      rw (begins_hidden_anyway (y ∷ r) h) (none_at (Some 0) r f))
  | inr h ↦ (let f : y ∷ visible true None r ≡ [] = rw h at e in absurd cc)
]
none_at (Some d) (y ∷ r) e = elim (cases_Bool (shuts y d)) [
  | inl h ↦ (let f : visible true None r ≡ [] = rw h at e in rw h (none_at None r f))
  | inr h ↦ (let f : visible true (Some (deeper y d)) r ≡ [] = rw h at e in
      rw h (none_at (Some (deeper y d)) r f))
]

-- if no token is visible with the five names, no token is visible without them
pub none_seen : (t : List Token) → visible_tokens true t ≡ [] → visible_tokens false t ≡ []
unfolding visible_tokens
none_seen t e = none_at None t e

-- ---- a token that is visible without the five names is visible with them

-- For a token that is visible without the five names from the place a on: its place among the
-- tokens that are visible with them from the place b on, and the visible tokens after it.
record Shown (a b : Option ℕ) (t : List Token) (x : Token) : Type 0 where
  before : List Token
  seen : visible true b t
      ≡ before ++ x ∷ visible true None (drop (hidden_count_at false a t + 1) t)

-- one more token comes first, and that token is hidden without the five names
skipped : (a b p q : Option ℕ) (y x : Token) (r f : List Token)
    → hidden_count_at false a (y ∷ r) ≡ suc (hidden_count_at false p r)
    → visible true b (y ∷ r) ≡ f ++ visible true q r → Shown p q r x → Shown a b (y ∷ r) x
skipped a b p q y x r f count seen s =
    let here = ap (λ (n : ℕ). drop (n + 1) (y ∷ r)) count ∙ past (hidden_count_at false p r) y r in
    record {
      before = f ++ s.before;
      seen = seen ∙ ap (λ (l : List Token). f ++ l) s.seen ∙ sym (append_assoc f s.before _)
          ∙ ap (λ (k : List Token). (f ++ s.before) ++ x ∷ visible true None k) (sym here);
    }

-- the place b is in no more groups than a
abbrev Within : Option ℕ → Option ℕ → Type 0
Within a None = Unit {0}
Within None (Some e) = ⊥
Within (Some d) (Some e) = e ≤ d

no_group_shut : (y : Token) (d : ℕ) (r : List Token) → shuts y d ≡ true
    → begins_hidden_group true (y ∷ r) ≡ false
no_group_shut LParen d r h = absurd cc
no_group_shut _ d r h = refl

shuts_within : (y : Token) (d e : ℕ) → e ≤ d → shuts y d ≡ true → shuts y e ≡ true
shuts_within RParen zero zero w h = refl
shuts_within RParen zero (suc e) w h = absurd (omega (arith, w))
shuts_within RParen (suc d) e w h = absurd cc
shuts_within _ d e w h = absurd cc

deeper_within : (y : Token) (d e : ℕ) → e ≤ d → deeper y e ≤ deeper y d
deeper_within LParen d e w = omega (arith, w)
deeper_within RParen d e w = omega (arith, w)
deeper_within _ d e w = w

shown_at : (a b : Option ℕ) (t : List Token) (x : Token) (l : List Token) → Within a b
    → visible false a t ≡ x ∷ l → Shown a b t x
unfolding visible hidden_count_at
shown_at None (Some e) t x l w s = absurd w
shown_at None None [] x l w s = absurd cc
shown_at (Some d) b [] x l w s = absurd cc
shown_at None None (y ∷ r) x l w s = elim (cases_Bool (begins_hidden_group false (y ∷ r))) [
  | inl h ↦ (let f : visible false (Some 0) r ≡ x ∷ l = rw h at s in
      elim (cases_Bool (begins_hidden_group true (y ∷ r))) [
        | inl k ↦ skipped None None (Some 0) (Some 0) y x r [] (rw h refl) (rw k refl)
            (shown_at (Some 0) (Some 0) r x l (omega arith) f)
        | inr k ↦ skipped None None (Some 0) None y x r (y ∷ []) (rw h refl) (rw k refl)
            (shown_at (Some 0) None r x l tt f)
      ])
  | inr h ↦ (let f : y ∷ visible false None r ≡ x ∷ l = rw h at s in
      let here : y ≡ x = cc in
      let k = shown_anyway (y ∷ r) h in
      subst (λ (z : Token). Shown None None (y ∷ r) z) here
      (record { before = []; seen = rw (h, k) refl }))
]
shown_at (Some d) None (y ∷ r) x l w s = elim (cases_Bool (shuts y d)) [
  | inl h ↦ (let f : visible false None r ≡ x ∷ l = rw h at s in
      skipped (Some d) None None None y x r (y ∷ []) (rw h refl) (rw (no_group_shut y d r h) refl)
      (shown_at None None r x l tt f))
  | inr h ↦ (let f : visible false (Some (deeper y d)) r ≡ x ∷ l = rw h at s in
      elim (cases_Bool (begins_hidden_group true (y ∷ r))) [
        | inl k ↦ skipped (Some d) None (Some (deeper y d)) (Some 0) y x r [] (rw h refl)
            (rw k refl) (shown_at (Some (deeper y d)) (Some 0) r x l (omega arith) f)
        | inr k ↦ skipped (Some d) None (Some (deeper y d)) None y x r (y ∷ []) (rw h refl)
            (rw k refl) (shown_at (Some (deeper y d)) None r x l tt f)
      ])
]
shown_at (Some d) (Some e) (y ∷ r) x l w s = elim (cases_Bool (shuts y d)) [
  | inl h ↦ (let f : visible false None r ≡ x ∷ l = rw h at s in
      skipped (Some d) (Some e) None None y x r [] (rw h refl) (rw (shuts_within y d e w h) refl)
      (shown_at None None r x l tt f))
  | inr h ↦ (let f : visible false (Some (deeper y d)) r ≡ x ∷ l = rw h at s in
      elim (cases_Bool (shuts y e)) [
        | inl k ↦ skipped (Some d) (Some e) (Some (deeper y d)) None y x r [] (rw h refl)
            (rw k refl) (shown_at (Some (deeper y d)) None r x l tt f)
        | inr k ↦ skipped (Some d) (Some e) (Some (deeper y d)) (Some (deeper y e)) y x r []
            (rw h refl) (rw k refl)
            (shown_at (Some (deeper y d)) (Some (deeper y e)) r x l (deeper_within y d e w) f)
      ])
]

-- The first token that is visible without the five names is visible with them. The tokens visible
-- with them after that token are the tokens visible with them in the rest of the text.
pub shown_too : (t : List Token) (x : Token) (l : List Token) → visible_tokens false t ≡ x ∷ l
    → (b : List Token) × (visible_tokens true t ≡ b ++ x ∷ visible_tokens true (behind false 1 t))
unfolding visible_tokens hidden_count behind
shown_too t x l e = let s = shown_at None None t x l tt e in (s.before, s.seen)
