-- If a definition without `sub` isn't heapless, the definition with `sub` around it isn't heapless either.
use Rattle.std.proofs.Common.{◌≡◌, Bool, true, false, List, [], ◌∷◌, Some, None, refl, sym, ap, ◌∙◌, inl, inr, ℕ, ◌&&◌, codes}
use Rattle.wat_types.specs.Prelude.{and_right, Token, Keyword, RParen, begins_word, paren, Read, some_of, front_of_none, by_read, some_is, word, flag, after_front, many_reads, IndexModel, index, begins_index, NotHeapless, no_items, TypeDefModel, described, maybe_shared, type_def}
use Rattle.wat_types.specs.Define.{heapless_inner_kind, heapless_def}

described_alone : (d : TypeDefModel) (c r : List Token) → described.spells d c r → d.parents ≡ []
unfolding described
described_alone d c r s = sym (ap (λ (u : TypeDefModel). u.parents) s.3)

alone : (d : TypeDefModel) (c r : List Token) → maybe_shared.spells d c r → d.parents ≡ []
unfolding maybe_shared
alone d c r (inl s) =
    let q = s.1.1 in
    sym (ap (λ (u : TypeDefModel). u.parents) s.1.3) ∙ (sym (ap (λ (u : TypeDefModel). u.parents) q.3) ∙ described_alone q.0.1 q.1.4.0 (RParen ∷ r) q.1.4.2)
alone d c r (inr s) = described_alone d c r s.1

heapless_left : (ps : List IndexModel) (b : Bool) → ps ≡ [] → (no_items ps && b) ≡ false → b ≡ false
heapless_left [] b e f = f
heapless_left (p ∷ ps) b e f = absurd cc

front_is : {A : Type 0} (x : Read (List A)) (y : List A × List Token) → after_front [] x ≡ Some y → x ≡ Some y
front_is (Some x) y e = e
front_is None y e = absurd cc

pub taken_word : (w : List ℕ) (t r : List Token) (b : Bool) → begins_word w t ≡ true → (flag w).reads t ≡ Some (b, r) → (word w).reads t ≡ Some (tt, r)
taken_word w [] r b k e = absurd cc
taken_word w (Keyword n ∷ t) r b k e =
    let f : some_of (true, t) ≡ Some (b, r) = rw k at e in
    rw k (ap (λ (l : List Token). some_of (tt, l)) (ap (λ (p : Bool × List Token). p.1) (some_is (true, t) (b, r) f)))
taken_word w (_ ∷ t) r b k e = absurd cc

module _ (b : Bool) (t t1 t2 : List Token) (k : begins_word (codes "sub") t ≡ true) (e : (word (codes "sub")).reads t ≡ Some (tt, t1)) (f : (flag (codes "final")).reads t1 ≡ Some (b, t2)) where
  abbrev parents : Read (List IndexModel)
  parents = many_reads begins_index index t2

  pub parents_fail : after_front [] parents ≡ None → type_def.reads t ≡ None
  unfolding type_def
  parents_fail n = rw (k, e, f, sym (front_of_none parents) ∙ n) refl

  pub parents_not_heapless : NotHeapless no_items (after_front [] parents) → NotHeapless heapless_def (type_def.reads t)
  unfolding type_def
  parents_not_heapless n = rw (k, e, f) (by_read parents
      (λ y m. (let some : no_items y.0 ≡ false = rw (front_of_none parents, m) at n in
      rw m (by_read ((paren maybe_shared).reads y.1) (λ z q. rw (q, some) refl) (λ q. rw q tt))))
      (λ m. rw m tt))

module _ (b : Bool) (ps : List IndexModel) (t t1 t2 t3 : List Token) (k : begins_word (codes "sub") t ≡ true) (e : (word (codes "sub")).reads t ≡ Some (tt, t1)) (f : (flag (codes "final")).reads t1 ≡ Some (b, t2)) (g : after_front [] (many_reads begins_index index t2) ≡ Some (ps, t3)) where
  pub sub_fails : (paren maybe_shared).reads t3 ≡ None → type_def.reads t ≡ None
  unfolding type_def
  sub_fails n = rw (k, e, f, front_is (many_reads begins_index index t2) (ps, t3) g, n) refl

  pub sub_not_heapless : NotHeapless heapless_def ((paren maybe_shared).reads t3) → NotHeapless heapless_def (type_def.reads t)
  unfolding type_def
  sub_not_heapless n = rw (k, e, f, front_is (many_reads begins_index index t2) (ps, t3) g) (by_read ((paren maybe_shared).reads t3)
      (λ y m. (let s = (paren maybe_shared).sound t3 y m in
      let heapless : heapless_def y.0 ≡ false = rw m at n in
      let left : heapless_inner_kind y.0.kind ≡ false = heapless_left y.0.parents (heapless_inner_kind y.0.kind) (alone y.0 s.2.0 (RParen ∷ y.1) s.2.2) heapless in
      rw m (and_right (no_items ps) (heapless_inner_kind y.0.kind) left)))
      (λ m. rw m tt))
