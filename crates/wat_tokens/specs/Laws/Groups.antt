-- Laws: the relations and the readers of groups agree.
use Rattle.std.proofs.Common.{◌≡◌, ◌+◌, ◌≤◌, List, [], ◌∷◌, ◌++◌, length, Some, refl, ap, subst, sym, ◌∙◌, append_assoc, arith, length-append}
use Rattle.wat_lexer.specs.Laws.Prelude.{Token, LParen, RParen, by_test}
use Rattle.wat_tokens.specs.Tests.{as_lparen, ends}
use Rattle.wat_tokens.specs.Parens.{AreBalanced}
use Rattle.wat_tokens.specs.Production.{Front, Production, some_of, none_of}
use Rattle.wat_tokens.specs.Laws.Production.{some_is, none_is_not, bind_some}
use Rattle.wat_tokens.specs.GroupSpells.{shut, paren_spells, paren_reads, end_spells, if_ends, end_reads, turn_spells, turn_reads}
use Rattle.wat_tokens.specs.Laws.Parens.{balanced_within}
use Rattle.wat_tokens.specs.PartSpells.{one_reads}

pub lparen_is : (t r : List Token) (u : Unit {0}) → one_reads as_lparen t ≡ Some (u, r)
    → t ≡ LParen ∷ r
lparen_is [] r u e = none_is_not (u, r) e
lparen_is (LParen ∷ t) r u e =
    ap (λ (x : Unit {0} × List Token). LParen ∷ x.1) (some_is (tt, t) (u, r) e)
lparen_is (_ ∷ t) r u e = none_is_not (u, r) e

-- ---- ( .. )

module _ {A : Type 0} (g : Production A) where
  shut_sound : (v : A) (t : List Token) (x : A × List Token) → shut g v t ≡ Some x
      → (t ≡ RParen ∷ x.1) × (v ≡ x.0)
  shut_sound v [] x e = none_is_not x e
  shut_sound v (RParen ∷ t) x e =
      let p = some_is (v, t) x e in (
        ap (λ (u : A × List Token). RParen ∷ u.1) p,
        ap
            (λ (u : A × List Token). u.0) p,
      )
  shut_sound v (_ ∷ t) x e = none_is_not x e

  pub paren_sound : (t : List Token) (x : A × List Token) → paren_reads g t ≡ Some x
      → Front (paren_spells g) t x
  paren_sound [] x e = none_is_not x e
  paren_sound (LParen ∷ t) x e =
      let p = bind_some (g.reads t) (shut g) x e in
      let q = shut_sound p.0.0 p.0.1 x p.2 in
      let y = g.sound t p.0 p.1 in
      let s : g.spells x.0 y.0 (RParen ∷ x.1) =
      subst (λ (u : A). g.spells u y.0 (RParen ∷ x.1)) q.1
      (subst (λ (u : List Token). g.spells p.0.0 y.0 u) q.0 y.2) in
      let whole : t ≡ (y.0 ++ RParen ∷ []) ++ x.1 =
      y.1 ∙ ap (λ (u : List Token). y.0 ++ u) q.0 ∙ sym (append_assoc y.0 (RParen ∷ []) x.1) in
      (LParen ∷ (y.0 ++ RParen ∷ []), ap (λ (u : List Token). LParen ∷ u) whole, (y.0, refl, s))
  paren_sound (_ ∷ t) x e = none_is_not x e

  pub paren_complete : (v : A) (c r : List Token) → paren_spells g v c r
      → paren_reads g (c ++ r) ≡ Some (v, r)
  paren_complete v c r s =
      rw (s.1) (rw (append_assoc s.0 (RParen ∷ []) r, g.complete v s.0 (RParen ∷ r) s.2) refl)

  pub paren_takes : (v : A) (c r : List Token) → paren_spells g v c r → g.least + 2 ≤ length c
  paren_takes v c r s =
      rw (s.1) (omega (arith, length-append s.0 (RParen ∷ []), g.takes v s.0 (RParen ∷ r) s.2))

  pub paren_balanced : (v : A) (c r : List Token) → paren_spells g v c r → AreBalanced c
  paren_balanced v c r s = rw (s.1) (balanced_within s.0 (g.balanced v s.0 (RParen ∷ r) s.2))

-- ---- a part that reaches to the end of its group

module _ {A : Type 0} (g : Production A) where
  pub end_sound : (t : List Token) (x : A × List Token) → end_reads g t ≡ Some x
      → Front (end_spells g) t x
  end_sound t x e =
      let p = bind_some (g.reads t) (if_ends g) x e in
      let y = g.sound t p.0 p.1 in
      by_test (ends p.0.1)
      (λ k. (let e2 : some_of (p.0.0, p.0.1) ≡ some_of x = rw k at p.2 in
      subst (λ (u : A × List Token). Front (end_spells g) t u) (some_is (p.0.0, p.0.1) x e2)
      (y.0, y.1, (y.2, k))))
      (λ k. (let e2 : none_of {A = A} ≡ some_of x = rw k at p.2 in none_is_not x e2))

  pub end_complete : (v : A) (c r : List Token) → end_spells g v c r
      → end_reads g (c ++ r) ≡ Some (v, r)
  end_complete v c r s = rw (g.complete v c r s.0, s.1) refl

  pub end_takes : (v : A) (c r : List Token) → end_spells g v c r → g.least ≤ length c
  end_takes v c r s = g.takes v c r s.0

  pub end_balanced : (v : A) (c r : List Token) → end_spells g v c r → AreBalanced c
  end_balanced v c r s = g.balanced v c r s.0

-- ---- ) (

lparen_first : (t : List Token) (x : Unit {0} × List Token) → one_reads as_lparen t ≡ Some x
    → t ≡ LParen ∷ x.1
lparen_first [] x e = none_is_not x e
lparen_first (LParen ∷ t) x e = ap (λ (u : Unit {0}
    × List Token). LParen ∷ u.1) (some_is (tt, t) x e)
lparen_first (_ ∷ t) x e = none_is_not x e

pub turn_sound : (t : List Token) (x : Unit {0} × List Token) → turn_reads t ≡ Some x
    → Front turn_spells t x
turn_sound [] x e = none_is_not x e
turn_sound (RParen ∷ t) x e =
    (RParen ∷ LParen ∷ [], ap (λ (u : List Token). RParen ∷ u) (lparen_first t x e), refl)
turn_sound (_ ∷ t) x e = none_is_not x e

pub turn_complete : (v : Unit {0}) (c r : List Token) → turn_spells v c r
    → turn_reads (c ++ r) ≡ Some (v, r)
turn_complete v c r s = rw s refl

pub turn_takes : (v : Unit {0}) (c r : List Token) → turn_spells v c r → 2 ≤ length c
turn_takes v c r s = rw s (omega arith)

pub turn_balanced : (v : Unit {0}) (c r : List Token) → turn_spells v c r → AreBalanced c
turn_balanced v c r s = rw s refl
