-- Laws: the relations and the readers of parts agree.
use Rattle.std.proofs.Common.{◌≡◌, ◌+◌, ◌≤◌, min, Bool, true, false, List, [], ◌∷◌, ◌++◌, length, Option, Some, None, refl, ap, subst, sym, ◌∙◌, append_assoc, arith, length-append, inl, inr}
use Rattle.wat_lexer.specs.Laws.Prelude.{Token, LParen, RParen, by_test}
use Rattle.wat_tokens.specs.Parens.{AreBalanced, NoParens}
use Rattle.wat_tokens.specs.Production.{Front, bind, Production, some_of, none_of}
use Rattle.wat_tokens.specs.Laws.Production.{some_is, none_is_not, bind_some}
use Rattle.wat_tokens.specs.PartSpells.{with_rest, one_spells, one_reads, seq_spells, seq_reads, where_spells, where_reads, of_spells, kept, of_reads, opt_spells, opt_reads}
use Rattle.wat_tokens.specs.Laws.Parens.{balanced_both}

-- ---- one token that has a value

module _ {A : Type 0} (value_of : Token → Option A) where
  with_rest_sound : (o : Option A) (x : Token) (r : List Token) (y : A × List Token)
      → value_of x ≡ o
      → with_rest o r ≡ Some y → Front (one_spells value_of) (x ∷ r) y
  with_rest_sound (Some w) x r y k e =
      subst (λ (z : A × List Token). Front (one_spells value_of) (x ∷ r) z) (some_is (w, r) y e)
      (x ∷ [], refl, (x, refl, k))
  with_rest_sound None x r y k e = none_is_not y e

  pub one_sound : (t : List Token) (x : A × List Token) → one_reads value_of t ≡ Some x
      → Front (one_spells value_of) t x
  one_sound [] y e = none_is_not y e
  one_sound (x ∷ t) y e = with_rest_sound (value_of x) x t y refl e

  pub one_complete : (v : A) (c r : List Token) → one_spells value_of v c r
      → one_reads value_of (c ++ r) ≡ Some (v, r)
  one_complete v c r s = rw (s.1) (rw (s.2) refl)

  pub one_takes : (v : A) (c r : List Token) → one_spells value_of v c r → 1 ≤ length c
  one_takes v c r s = rw (s.1) (omega arith)

  one_flat : NoParens value_of → (v : A) (x : Token) → value_of x ≡ Some v → AreBalanced (x ∷ [])
  one_flat flat v LParen e = absurd (let f : value_of LParen ≡ None = flat.0 in cc)
  one_flat flat v RParen e = absurd (let f : value_of RParen ≡ None = flat.1 in cc)
  one_flat flat v _ e = refl

  pub one_balanced : NoParens value_of → (v : A) (c r : List Token) → one_spells value_of v c r
      → AreBalanced c
  one_balanced flat v c r s = rw (s.1) (one_flat flat v s.0 s.2)

-- ---- one part, and then another

module _ {A B : Type 0} (g : Production A) (h : Production B) where
  pub seq_sound : (t : List Token) (x : (A × B) × List Token) → seq_reads g h t ≡ Some x
      → Front (seq_spells g h) t x
  seq_sound t x e =
      let p = bind_some (g.reads t) (λ a t'. bind (h.reads t') (λ b r. Some ((a, b), r))) x e in
      let q = bind_some (h.reads p.0.1) (λ b r. Some ((p.0.0, b), r)) x p.2 in
      let y = g.sound t p.0 p.1 in
      let z = h.sound p.0.1 q.0 q.1 in
      let s : seq_spells g h (p.0.0, q.0.0) (y.0 ++ z.0) q.0.1 =
      (y.0, z.0, refl, subst (λ (u : List Token). g.spells p.0.0 y.0 u) z.1 y.2, z.2) in
      let whole : t ≡ (y.0 ++ z.0) ++ q.0.1 =
      y.1 ∙ ap (λ (u : List Token). y.0 ++ u) z.1 ∙ sym (append_assoc y.0 z.0 q.0.1) in
      subst (λ (u : (A × B) × List Token). Front (seq_spells g h) t u)
      (some_is ((p.0.0, q.0.0), q.0.1) x q.2) (y.0 ++ z.0, whole, s)

  pub seq_complete : (v : A × B) (c r : List Token) → seq_spells g h v c r
      → seq_reads g h (c ++ r) ≡ Some (v, r)
  seq_complete v c r s =
      let e : c ++ r ≡ s.0 ++ (s.1 ++ r) = rw (s.2) (append_assoc s.0 s.1 r) in
      rw (e, g.complete v.0 s.0 (s.1 ++ r) s.3, h.complete v.1 s.1 r s.4) refl

  pub seq_takes : (v : A × B) (c r : List Token) → seq_spells g h v c r
      → g.least + h.least ≤ length c
  seq_takes v c r s =
      rw (s.2) (omega (
        arith,
        length-append s.0 s.1,
        g.takes v.0 s.0 (s.1 ++ r) s.3,
        h.takes v.1 s.1
            r s.4,
      ))

  pub seq_balanced : (v : A × B) (c r : List Token) → seq_spells g h v c r → AreBalanced c
  seq_balanced v c r s =
      rw (s.2) (balanced_both s.0 s.1 (g.balanced v.0 s.0 (s.1 ++ r) s.3)
      (h.balanced v.1 s.1 r s.4))

-- ---- one part if a test of the next tokens holds, else another part

module _ {A : Type 0} (test : List Token → Bool) (g h : Production A) where
  pub where_sound : (t : List Token) (x : A × List Token) → where_reads test g h t ≡ Some x
      → Front (where_spells test g h) t x
  where_sound t x e =
      by_test (test t)
      (λ k. (let y = g.sound t x (rw k at e)
      in (y.0, y.1, inl (subst (λ (u : List Token). test u ≡ true) y.1 k, y.2))))
      (λ k. (let y = h.sound t x (rw k at e)
      in (y.0, y.1, inr (subst (λ (u : List Token). test u ≡ false) y.1 k, y.2))))

  pub where_complete : (v : A) (c r : List Token) → where_spells test g h v c r
      → where_reads test g h (c ++ r) ≡ Some (v, r)
  where_complete v c r (inl s) = rw (s.0) (g.complete v c r s.1)
  where_complete v c r (inr s) = rw (s.0) (h.complete v c r s.1)

  pub where_takes : (v : A) (c r : List Token) → where_spells test g h v c r
      → min g.least h.least ≤ length c
  where_takes v c r (inl s) = omega (arith, g.takes v c r s.1)
  where_takes v c r (inr s) = omega (arith, h.takes v c r s.1)

  pub where_balanced : (v : A) (c r : List Token) → where_spells test g h v c r → AreBalanced c
  where_balanced v c r (inl s) = g.balanced v c r s.1
  where_balanced v c r (inr s) = h.balanced v c r s.1

-- ---- a value made of the parts, if the parts meet a condition

module _ {A B : Type 0} (ok : A → Bool) (f : A → B) (g : Production A) where
  pub of_sound : (t : List Token) (x : B × List Token) → of_reads ok f g t ≡ Some x
      → Front (of_spells ok f g) t x
  of_sound t x e =
      let p = bind_some (g.reads t) (kept ok f g) x e in
      let y = g.sound t p.0 p.1 in
      by_test (ok p.0.0)
      (λ k.
      (let e2 : some_of (f p.0.0, p.0.1) ≡ some_of x = rw k at p.2 in
      subst (λ (u : B × List Token). Front (of_spells ok f g) t u) (some_is (f p.0.0, p.0.1) x e2)
      (y.0, y.1, (p.0.0, y.2, k, refl))))
      (λ k. (let e2 : none_of {A = B} ≡ some_of x = rw k at p.2 in none_is_not x e2))

  pub of_complete : (v : B) (c r : List Token) → of_spells ok f g v c r
      → of_reads ok f g (c ++ r) ≡ Some (v, r)
  of_complete v c r s = rw (g.complete s.0 c r s.1, s.2, s.3) refl

  pub of_takes : (v : B) (c r : List Token) → of_spells ok f g v c r → g.least ≤ length c
  of_takes v c r s = g.takes s.0 c r s.1

  pub of_balanced : (v : B) (c r : List Token) → of_spells ok f g v c r → AreBalanced c
  of_balanced v c r s = g.balanced s.0 c r s.1

-- ---- an optional part: present if the next tokens begin it

module _ {A : Type 0} (begins : List Token → Bool) (g : Production A) where
  pub opt_sound : (t : List Token) (x : Option A × List Token) → opt_reads begins g t ≡ Some x
      → Front (opt_spells begins g) t x
  opt_sound t x e =
      by_test (begins t)
      (λ k.
      (let p = bind_some (g.reads t) (λ v r. Some (Some v, r)) x (rw k at e) in
      let y = g.sound t p.0 p.1 in
      let s : opt_spells begins g (Some p.0.0) y.0 p.0.1 =
      (subst (λ (u : List Token). begins u ≡ true) y.1 k, y.2) in
      subst (λ (u : Option A × List Token). Front (opt_spells begins g) t u)
      (some_is (Some p.0.0, p.0.1) x p.2) (y.0, y.1, s)))
      (λ k.
      (let e2 : some_of {A = Option A} (None, t) ≡ some_of x = rw k at e in
      let s : opt_spells begins g None [] t = (refl, k) in
      subst (λ (u : Option A × List Token). Front (opt_spells begins g) t u)
      (some_is {A = Option A} (None, t) x e2) ([], refl, s)))

  pub opt_complete : (v : Option A) (c r : List Token) → opt_spells begins g v c r
      → opt_reads begins g (c ++ r) ≡ Some (v, r)
  opt_complete (Some v) c r s = rw (s.0, g.complete v c r s.1) refl
  opt_complete None c r s = rw (s.0) (rw (s.1) refl)

  pub opt_takes : (v : Option A) (c r : List Token) → opt_spells begins g v c r → 0 ≤ length c
  opt_takes v c r s = omega arith

  pub opt_balanced : (v : Option A) (c r : List Token) → opt_spells begins g v c r → AreBalanced c
  opt_balanced (Some v) c r s = g.balanced v c r s.1
  opt_balanced None c r s = rw (s.0) refl
