-- Laws: any number of parts, and the invariant of a loop that reads them.
use Rattle.std.proofs.Common.{◌≡◌, ℕ, zero, suc, ◌-◌, ◌≤◌, ◌<◌, Bool, true, false, List, [], ◌∷◌, ◌++◌, length, Option, Some, None, refl, ap, subst, sym, ◌∙◌, append_assoc, arith, length-append}
use Rattle.wat_lexer.specs.Laws.Prelude.{Token, by_test}
use Rattle.wat_tokens.specs.Parens.{AreBalanced}
use Rattle.wat_tokens.specs.Production.{Read, Front, bind, Production, some_of, none_of, option_of}
use Rattle.wat_tokens.specs.Laws.Production.{some_is, bind_some, none_is_not, by_read, by_option, less_left}
use Rattle.wat_tokens.specs.ManySpells.{many_spells, many_at, many_reads}
use Rattle.wat_tokens.specs.Laws.Parens.{balanced_both}
use Rattle.wat_tokens.specs.PartSpells.{with_rest}
use Rattle.wat_tokens.specs.Adding.{add_read, option_then, add_all, add_rest}

-- ---- any number of parts: one more whenever the next tokens begin a part

module _ {A : Type 0} (begins : List Token → Bool) (g : Production A) where
  many_none : (t : List Token) (x : List A × List Token) → begins t ≡ false
      → some_of {A = List A} ([], t) ≡ some_of x → Front (many_spells begins g) t x
  many_none t x k e =
      let s : many_spells begins g [] [] t = (refl, k) in
      subst (λ (u : List A × List Token). Front (many_spells begins g) t u)
      (some_is {A = List A} ([], t) x e) ([], refl, s)

  many_at_sound : (n : ℕ) (t : List Token) (x : List A × List Token) → many_at begins g n t ≡ Some x
      → Front (many_spells begins g) t x
  unfolding many_at
  many_at_sound zero t x e =
      by_test (begins t)
      (λ k. (let e2 : none_of {A = List A} ≡ some_of x = rw k at e in none_is_not x e2))
      (λ k. many_none t x k (rw k at e))
  many_at_sound (suc n) t x e =
      by_test (begins t)
      (λ k.
      (let p = bind_some (g.reads t)
      (λ v t'. bind (many_at begins g n t') (λ vs r. Some (v ∷ vs, r))) x (rw k at e) in
      let q = bind_some (many_at begins g n p.0.1) (λ vs r. Some (p.0.0 ∷ vs, r)) x p.2 in
      let y = g.sound t p.0 p.1 in
      let z = many_at_sound n p.0.1 q.0 q.1 in
      let whole : t ≡ (y.0 ++ z.0) ++ q.0.1 =
      y.1 ∙ ap (λ (u : List Token). y.0 ++ u) z.1 ∙ sym (append_assoc y.0 z.0 q.0.1) in
      let s : many_spells begins g (p.0.0 ∷ q.0.0) (y.0 ++ z.0) q.0.1 = (
        y.0,
        z.0,
        refl,
        subst (λ (u : List Token). begins u ≡ true) whole k,
        subst
            (λ (u : List Token). g.spells p.0.0 y.0 u) z.1 y.2,
        z.2,
      ) in
      subst (λ (u : List A × List Token). Front (many_spells begins g) t u)
      (some_is (p.0.0 ∷ q.0.0, q.0.1) x q.2) (y.0 ++ z.0, whole, s)))
      (λ k. many_none t x k (rw k at e))

  many_at_complete : 1 ≤ g.least → (v : List A) (n : ℕ) (c r : List Token) → length c ≤ n
      → many_spells begins g v c r → many_at begins g n (c ++ r) ≡ Some (v, r)
  unfolding many_at
  many_at_complete consumes [] zero c r le s = rw (s.0) (rw (s.1) refl)
  many_at_complete consumes [] (suc n) c r le s = rw (s.0) (rw (s.1) refl)
  many_at_complete consumes (v ∷ vs) zero c r le s =
      absurd (omega (arith, ap length s.2, length-append s.0 s.1, g.takes v s.0 (s.1 ++ r) s.4))
  many_at_complete consumes (v ∷ vs) (suc n) c r le s =
      let e : c ++ r ≡ s.0 ++ (s.1 ++ r) = rw (s.2) (append_assoc s.0 s.1 r) in
      let short : length s.1 ≤ n =
      omega (arith, ap length s.2, length-append s.0 s.1, g.takes v s.0 (s.1 ++ r) s.4) in
      let b : begins (s.0 ++ (s.1 ++ r)) ≡ true = rw (← e) (s.3) in
      rw (e, b, g.complete v s.0 (s.1 ++ r) s.4, many_at_complete consumes vs n s.1 r short s.5)
      refl

  -- a bound above the number of tokens doesn't change the result
  many_enough : 1 ≤ g.least → (n m : ℕ) (t : List Token) → length t ≤ n → length t ≤ m
      → many_at begins g n t ≡ many_at begins g m t
  many_enough consumes n m t le le2 =
      by_read (many_at begins g n t)
      (λ x e. (let f = many_at_sound n t x e in
      let short : length f.0 ≤ m = omega (arith, ap length f.1, length-append f.0 x.1) in
      e ∙ sym (ap (λ (u : List Token). many_at begins g m u) f.1
      ∙ many_at_complete consumes x.0 m f.0 x.1 short f.2)))
      (λ e. by_read (many_at begins g m t)
      (λ y e2. (let f = many_at_sound m t y e2 in
      let short : length f.0 ≤ n = omega (arith, ap length f.1, length-append f.0 y.1) in
      ap (λ (u : List Token). many_at begins g n u) f.1
      ∙ many_at_complete consumes y.0 n f.0 y.1 short f.2 ∙ sym e2))
      (λ e2. e ∙ sym e2))

  many_room : 1 ≤ g.least → (n : ℕ) (t : List Token) → length t ≤ n
      → many_at begins g n t ≡ many_reads begins g t
  unfolding many_reads
  many_room consumes n t le = many_enough consumes n (length t) t le (omega arith)

  stops : (n : ℕ) (t : List Token) → begins t ≡ false → many_at begins g n t ≡ Some ([], t)
  unfolding many_at
  stops zero t k = rw k refl
  stops (suc n) t k = rw k refl

  pub many_stop : (t : List Token) → begins t ≡ false → many_reads begins g t ≡ Some ([], t)
  unfolding many_reads many_at
  many_stop t k = stops (length t) t k

  fails_at : (n : ℕ) (t : List Token) → begins t ≡ true → g.reads t ≡ None
      → many_at begins g n t ≡ None
  unfolding many_at
  fails_at zero t k e = rw k refl
  fails_at (suc n) t k e = rw (k, e) refl

  pub many_fails : (t : List Token) → begins t ≡ true → g.reads t ≡ None
      → many_reads begins g t ≡ None
  unfolding many_reads
  many_fails t k e = fails_at (length t) t k e

  steps : 1 ≤ g.least → (n : ℕ) (t : List Token) (v : A) (t' : List Token) → begins t ≡ true
      → g.reads t ≡ Some (v, t') → length t' ≤ n
      → many_at begins g (suc n) t ≡ bind (many_reads begins g t') (λ vs r. Some (v ∷ vs, r))
  unfolding many_at
  steps consumes n t v t' k e le =
      rw (k, e) (ap (λ (u : Read (List A)). bind u (λ vs r. Some (v ∷ vs, r)))
      (many_room consumes n t' le))

  pub many_step : 1 ≤ g.least → (t : List Token) (v : A) (t' : List Token) → begins t ≡ true
      → g.reads t ≡ Some (v, t') → many_reads begins g t
      ≡ bind (many_reads begins g t') (λ vs r. Some (v ∷ vs, r))
  unfolding many_reads
  many_step consumes t v t' k e =
      let f = g.sound t (v, t') e in
      let less : length t' < length t =
      omega (arith, ap length f.1, length-append f.0 t', g.takes v f.0 t' f.2) in
      let n : length t ≡ suc (length t - 1) = omega arith in
      rw n (steps consumes (length t - 1) t v t' k e (omega arith))

  pub many_sound : (t : List Token) (x : List A × List Token) → many_reads begins g t ≡ Some x
      → Front (many_spells begins g) t x
  unfolding many_reads
  many_sound t x e = many_at_sound (length t) t x e

  pub many_complete : 1 ≤ g.least → (v : List A) (c r : List Token) → many_spells begins g v c r
      → many_reads begins g (c ++ r) ≡ Some (v, r)
  unfolding many_reads
  many_complete consumes v c r s =
      many_at_complete consumes v (length (c ++ r)) c r (omega (arith, length-append c r)) s

  pub many_takes : (v : List A) (c r : List Token) → many_spells begins g v c r → 0 ≤ length c
  many_takes v c r s = omega arith

  pub many_balanced : (v : List A) (c r : List Token) → many_spells begins g v c r → AreBalanced c
  many_balanced [] c r s = rw (s.0) refl
  many_balanced (v ∷ vs) c r s =
      rw (s.2) (balanced_both s.0 s.1 (g.balanced v s.0 (s.1 ++ r) s.4)
      (many_balanced vs s.1 r s.5))

-- no part begins after the last
pub many_ends : {A : Type 0} (begins : List Token → Bool) (g : Production A) (vs : List A)
    (c r : List Token) → many_spells begins g vs c r → begins r ≡ false
many_ends begins g [] c r s = s.1
many_ends begins g (v ∷ vs) c r s = many_ends begins g vs s.1 r s.5

-- ---- a loop that adds each part to a state, if the part fits

with_rest_none : {A : Type 0} (o : Option A) (r : List Token) → with_rest o r ≡ None → o ≡ None
with_rest_none (Some v) r e = absurd cc
with_rest_none None r e = refl

module _ {A S : Type 0} (add : S → A → Option S) where
  add_some : (s : S) (x : Read A) (y : S × List Token) → add_read add s x ≡ Some y
      → (v : A) × (x ≡ Some (v, y.1)) × (add s v ≡ Some y.0)
  add_some s x y e =
      let p = bind_some x (λ v r. with_rest (add s v) r) y e in
      by_option (add s p.0.0)
      (λ s2 k. (let e2 : some_of (s2, p.0.1) ≡ some_of y = rw k at p.2 in
      let q = some_is (s2, p.0.1) y e2 in (
        p.0.0,
        p.1 ∙ ap (λ (r : List Token). some_of (p.0.0, r)) (ap (λ (u : S × List Token). u.1) q),
        k ∙ ap (λ (u : S). option_of u) (ap (λ (u : S × List Token). u.0) q),
      )))
      (λ k. (let e2 : none_of {A = S} ≡ some_of y = rw k at p.2 in none_is_not y e2))

  add_step : (s : S) (v : A) (o : Option S) (read : Read (List A)) → add s v ≡ o
      → add_rest add s (bind read (λ vs r. Some (v ∷ vs, r)))
      ≡ elim o [ Some s2 ↦ (add_rest add) s2 read | None ↦ None ]
  add_step s v o (Some x) e =
      rw e (elim o as (λ p. with_rest (option_then p (add_all add x.0)) x.1
      ≡ elim p [ Some s2 ↦ (add_rest add) s2 (Some x) | None ↦ None ])
      [ Some s2 ↦ refl | None ↦ refl ])
  add_step s v o None e =
      elim o as (λ p. none_of {A = S} ≡ elim p [ Some s2 ↦ (add_rest add) s2 None | None ↦ None ])
      [ Some s2 ↦ refl | None ↦ refl ]

  module _ (begins : List Token → Bool) (g : Production A) (consumes : 1 ≤ g.least) where
    pub adding_goes_on : (s : S) (t : List Token) (s2 : S) (t2 : List Token) → begins t ≡ true
        → add_read add s (g.reads t) ≡ Some (s2, t2)
        → add_rest add s (many_reads begins g t) ≡ add_rest add s2 (many_reads begins g t2)
    adding_goes_on s t s2 t2 k e =
        let p = add_some s (g.reads t) (s2, t2) e in
        ap (λ (u : Read (List A)). add_rest add s u) (many_step begins g consumes t p.0 t2 k p.1)
        ∙ add_step s p.0 (Some s2) (many_reads begins g t2) p.2

    pub adding_ends : (s : S) (t : List Token) → begins t ≡ false
        → add_rest add s (many_reads begins g t) ≡ Some (s, t)
    adding_ends s t k = rw (many_stop begins g t k) refl

    pub adding_fails : (s : S) (t : List Token) → begins t ≡ true
        → add_read add s (g.reads t) ≡ None
        → add_rest add s (many_reads begins g t) ≡ None
    adding_fails s t k e =
        by_read (g.reads t)
        (λ x h. (let n : add s x.0 ≡ None = with_rest_none (add s x.0) x.1 (rw h at e) in
        ap (λ (u : Read (List A)). add_rest add s u) (many_step begins g consumes t x.0 x.1 k h)
        ∙ add_step s x.0 None (many_reads begins g x.1) n))
        (λ h. ap (λ (u : Read (List A)). add_rest add s u) (many_fails begins g t k h))

    pub adding_takes : (s : S) (t : List Token) (s2 : S) (t2 : List Token)
        → add_read add s (g.reads t) ≡ Some (s2, t2) → length t2 < length t
    adding_takes s t s2 t2 e =
        let p = add_some s (g.reads t) (s2, t2) e in less_left g t p.0 t2 consumes p.1
