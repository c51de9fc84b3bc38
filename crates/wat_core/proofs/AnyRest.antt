-- Tokens that spell a module before one end spell it before each end.
use Rattle.std.proofs.Common.{◌≡◌, ℕ, true, false, List, [], ◌∷◌, ◌++◌, codes, refl, sym, ◌∙◌, arith, inl, inr}
use Rattle.wat_core.specs.Prelude.{Token, RParen, ends, more, Production, made, paren, run, at_more, at_word, end_denied, name_annotation, label, module_field, ModuleModel, ModuleKindModel, binary, fields, pieces, module_kind, module_}
use Rattle.wat_tokens.specs.Parts.{after_word}
use Rattle.wat_tokens.specs.ManySpells.{many_spells}
use Rattle.wat_tokens.specs.Test.{denies_end}
use Rattle.wat_tokens.specs.Laws.Test.{is_quiet, sees, closed_alike}
use Rattle.wat_tokens.specs.Asks.{Alike, behind}
use Rattle.wat_tokens.specs.Parens.{AreBalanced}
use Rattle.wat_tokens.specs.Laws.Settled.{settled_alike}
use Rattle.wat_core.proofs.Ends.{spelled_ends}

-- ---- groups to the end, as the fields of a module

module _ {A : Type 0} (g : Production A) where
  in_group : (v : A) (c r s : List Token) → is_quiet r ≡ true → is_quiet s ≡ true → (paren g).spells v c r → (paren g).spells v c s
  in_group v c r s p q h = (h.0, h.1, g.moves v h.0 (RParen ∷ r) (RParen ∷ s) (closed_alike g.asks r s p q) h.2)

  quiet_end : (t : List Token) → more t ≡ false → is_quiet t ≡ true
  quiet_end [] e = refl
  quiet_end (RParen ∷ t) e = refl
  quiet_end (_ ∷ t) e = absurd cc

  -- another group or an end follows a group
  quiet_behind : (vs : List A) (c t : List Token) → many_spells (λ r. run at_more r) (paren g) vs c t → is_quiet (c ++ t) ≡ true
  quiet_behind [] c t s = rw (s.0) (quiet_end t s.1)
  quiet_behind (v ∷ vs) c t s = rw (s.2) (rw (s.4.1) refl)

  groups_move : (vs : List A) (c t u : List Token) → ends u ≡ true → many_spells (λ r. run at_more r) (paren g) vs c t → many_spells (λ r. run at_more r) (paren g) vs c u
  groups_move [] c t u e s = (s.0, rw e refl)
  groups_move (v ∷ vs) c t u e s =
      let k = groups_move vs s.1 t u e s.5 in
      let m : more (c ++ u) ≡ true = rw (s.2) (rw (s.4.1) refl) in
      (s.0, s.1, s.2, m, in_group v s.0 (s.1 ++ t) (s.1 ++ u) (quiet_behind vs s.1 t s.5) (quiet_behind vs s.1 u k) s.4, k)

-- ---- a module

module _ (r s : List Token) (p : ends r ≡ true) (q : ends s ≡ true) where
  label_alike : (c : List Token) → AreBalanced c → Alike label.asks (c ++ r) (c ++ s)
  unfolding label name_annotation
  label_alike c b = settled_alike denies_end (λ a. false) s (λ a d. end_denied a s d q) (λ a d. absurd cc) (behind 0 label.asks) r refl c (omega arith) (omega (arith, b))

  word_same : (w : List ℕ) (c : List Token) → run (at_word w) (c ++ r) ≡ run (at_word w) (c ++ s)
  word_same w [] = end_denied (at_word w).asks r refl p ∙ sym (end_denied (at_word w).asks s refl q)
  word_same w (x ∷ c) = refl

  pieces_alike : Alike pieces.asks r s
  unfolding pieces
  pieces_alike = (λ e le level h. sym (sees at_more.asks e r s le) ∙ h, (λ e le level. tt, λ h. rw q refl))

  kind_moves : (v : ModuleKindModel) (c : List Token) → module_kind.spells v c r → module_kind.spells v c s
  unfolding module_kind fields
  kind_moves v c (inl k) = inl (sym (word_same (codes "binary") c) ∙ k.0, (made binary (after_word (codes "binary") pieces)).moves v c r s (λ e le level. tt, pieces_alike) k.1)
  kind_moves v c (inr k) = inr (sym (word_same (codes "binary") c) ∙ k.0, (k.1.0, groups_move module_field k.1.0 c r s q k.1.1, k.1.2, k.1.3))

pub any_rest : (m : ModuleModel) (c r s : List Token) → module_.spells m c r → ends s ≡ true → module_.spells m c s
unfolding module_
any_rest m c r s h q =
    let p = spelled_ends m c r h in
    let k = h.1.4 in
    let l = k.1 in
    let b : AreBalanced l.1 = module_kind.balanced k.0.1 l.1 r l.4 in
    (h.0, (h.1.0, h.1.1, h.1.2, h.1.3, (k.0, (l.0, l.1, l.2, label.moves k.0.0 l.0 (l.1 ++ r) (l.1 ++ s) (label_alike r s p q l.1 b) l.3, kind_moves r s p q k.0.1 l.1 l.4), k.2, k.3)), h.2, h.3)
