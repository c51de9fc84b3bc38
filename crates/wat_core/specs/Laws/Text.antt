-- Laws: modules that a whole text spells.
use Rattle.std.proofs.Common.{◌≡◌, ℕ, Bool, true, false, List, [], ◌∷◌, ◌++◌, refl, ap, sym, ◌∙◌, subst, append_assoc, append-nil}
use Rattle.std.proofs.lemmas.List.{length-append}
use Rattle.wat_core.specs.Prelude.{ModuleModel, module_, IsModule, seen_behind, none_seen, paren, begins_annotation_group, visible, visible_tokens, hidden_count, hidden_count_at, behind, Token, LParen, RParen}
use Rattle.wat_core.specs.Laws.Sight.{seen_behind_all, shown_too}

-- ---- tokens that are all visible

one_behind : (known : Bool) (x : Token) (r : List Token) → begins_annotation_group (x ∷ r) ≡ false
    → behind known 1 (x ∷ r) ≡ r
unfolding behind hidden_count hidden_count_at
one_behind known x r h = rw h refl

opens_so : (x : Token) (r : List Token) → begins_annotation_group (x ∷ r) ≡ false
    → visible_tokens false (x ∷ r) ≡ x ∷ visible_tokens false r
unfolding visible_tokens visible
opens_so x r h = rw h refl

group_is : (m : ModuleModel) (r d : List Token) → begins_annotation_group (LParen ∷ r) ≡ false
    → visible_tokens true (LParen ∷ r) ≡ LParen ∷ (d ++ RParen ∷ [])
    → module_.spells m d (RParen ∷ []) → IsModule (LParen ∷ r) m
group_is m r d h e s =
    let q = behind false 1 (LParen ∷ r) in
    let here : q ≡ r = one_behind false LParen r h in
    let inside : visible_tokens true q ≡ d ++ RParen ∷ [] =
    ap (λ (t : List Token). visible_tokens true t) (here ∙ sym (one_behind true LParen r h))
    ∙ seen_behind true (LParen ∷ r) LParen (d ++ RParen ∷ []) e in
    let none =
    seen_behind_all true (d ++ RParen ∷ []) q []
    (inside ∙ sym (append-nil (d ++ RParen ∷ []))) in
    record {
      first = visible_tokens false r;
      opens = opens_so LParen r h;
      tokens = d;
      more = [];
      inside = inside;
      spelled = s;
      last = none_seen _ (subst (λ (n : ℕ). visible_tokens true (behind true n q) ≡ [])
          (length-append d (RParen ∷ [])) none);
    }

-- The tokens are one group that spells a module. All tokens are visible with the five names, and
-- the group isn't an annotation's group.
pub is_module : (m : ModuleModel) (t : List Token) → begins_annotation_group t ≡ false
    → visible_tokens true t ≡ t → (paren module_).spells m t [] → IsModule t m
is_module m t h e (d, is, s) =
    subst (λ (u : List Token). IsModule u m) (sym is)
    (group_is m (d ++ RParen ∷ []) d
    (subst (λ (u : List Token). begins_annotation_group u ≡ false) is h)
    (subst (λ (u : List Token). visible_tokens true u ≡ u) is e) s)

-- ---- tokens with hidden tokens among them

-- the group that spells the module is among the tokens that are visible with the five names
pub group_stands : (m : ModuleModel) (t : List Token) → IsModule t m
    → (b : List Token) × (c : List Token) × (r : List Token)
    × (visible_tokens true t ≡ b ++ (c ++ r))
    × (paren module_).spells m c r
group_stands m t s =
    let c = LParen ∷ (s.tokens ++ RParen ∷ []) in
    let (b, e) = shown_too t LParen s.first s.opens in
    let all : LParen ∷ (s.tokens ++ RParen ∷ s.more) ≡ c ++ s.more =
    ap (λ (l : List Token). LParen ∷ l) (sym (append_assoc s.tokens (RParen ∷ []) s.more)) in (
      b,
      c,
      s.more,
      e ∙ ap (λ (l : List Token). b ++ LParen ∷ l) s.inside ∙ ap (λ (l : List Token). b ++ l) all,
      (s.tokens, refl, s.spelled),
    )
