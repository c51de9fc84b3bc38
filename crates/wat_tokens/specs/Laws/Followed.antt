-- Laws: a part whose value decides the next part, and the empty part.
use Rattle.std.proofs.Common.{◌≡◌, ◌≤◌, List, [], ◌++◌, length, Some, refl, ap, sym, ◌∙◌, subst, arith, length-append, append_assoc}
use Rattle.wat_tokens.specs.Laws.Prelude.{Token, AreBalanced, Front, Production, bind_some, some_is, followed_spells, balanced_both}
use Rattle.wat_tokens.specs.FollowedSpells.{followed_reads, blank_spells, blank_reads}

-- ---- a part, and then a part that depends on its value

module _ {A B : Type 0} (g : Production A) (h : A → Production B) where
  pub followed_sound : (t : List Token) (x : B × List Token) → followed_reads g h t ≡ Some x
      → Front (followed_spells g h) t x
  followed_sound t x e =
      let p = bind_some (g.reads t) (λ a t'. (h a).reads t') x e in
      let y = g.sound t p.0 p.1 in
      let z = (h p.0.0).sound p.0.1 x p.2 in
      let s : followed_spells g h x.0 (y.0 ++ z.0) x.1 =
      (p.0.0, y.0, z.0, refl, subst (λ (u : List Token). g.spells p.0.0 y.0 u) z.1 y.2, z.2) in
      let whole : t ≡ (y.0 ++ z.0) ++ x.1 =
      y.1 ∙ ap (λ (u : List Token). y.0 ++ u) z.1 ∙ sym (append_assoc y.0 z.0 x.1) in
      (y.0 ++ z.0, whole, s)

  pub followed_complete : (v : B) (c r : List Token) → followed_spells g h v c r
      → followed_reads g h (c ++ r) ≡ Some (v, r)
  followed_complete v c r s =
      let e : c ++ r ≡ s.1 ++ (s.2 ++ r) = rw (s.3) (append_assoc s.1 s.2 r) in
      rw (e, g.complete s.0 s.1 (s.2 ++ r) s.4) ((h s.0).complete v s.2 r s.5)

  pub followed_takes : (v : B) (c r : List Token) → followed_spells g h v c r → g.least ≤ length c
  followed_takes v c r s =
      rw (s.3) (omega (arith, length-append s.1 s.2, g.takes s.0 s.1 (s.2 ++ r) s.4))

  pub followed_balanced : (v : B) (c r : List Token) → followed_spells g h v c r → AreBalanced c
  followed_balanced v c r s =
      rw (s.3) (balanced_both s.1 s.2 (g.balanced s.0 s.1 (s.2 ++ r) s.4)
      ((h s.0).balanced v s.2 r s.5))

-- ---- no tokens

module _ {A : Type 0} (a : A) where
  pub blank_sound : (t : List Token) (x : A × List Token) → blank_reads a t ≡ Some x
      → Front (blank_spells a) t x
  blank_sound t x e =
      subst (λ (u : A × List Token). Front (blank_spells a) t u) (some_is (a, t) x e)
      ([], refl, (refl, refl))

  pub blank_complete : (v : A) (c r : List Token) → blank_spells a v c r
      → blank_reads a (c ++ r) ≡ Some (v, r)
  blank_complete v c r s = rw (s.0) (rw (s.1) refl)

  pub blank_takes : (v : A) (c r : List Token) → blank_spells a v c r → 0 ≤ length c
  blank_takes v c r s = omega arith

  pub blank_balanced : (v : A) (c r : List Token) → blank_spells a v c r → AreBalanced c
  blank_balanced v c r s = rw (s.0) refl
