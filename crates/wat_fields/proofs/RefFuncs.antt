-- Indices that are read as `ref.func` of each are the indices, and then a `ref.func` of each.
use Rattle.std.proofs.Common.{◌≡◌, ℕ, zero, suc, Bool, true, false, List, ◌∷◌, length, map, Some, None, refl, ap, ◌∙◌}
use Rattle.wat_fields.specs.Prelude.{Token, more, Production, some_of, by_test, by_read, made, many_at, many_reads, index, RefTypeModel, is_funcref, ref_func_of, index_list, ref_func}
use Rattle.wat_tokens.specs.Production.{Read, bind}
use Rattle.wat_fields.specs.RefFuncs.{ref_funcs, indices_of, plain_indices, ref_funcs_of}

module _ {A B : Type 0} (follows : List Token → Bool) (f : A → B) (g : Production A) where
  abbrev mapped : Read (List A) → Read (List B)
  mapped read = bind read (λ vs r. some_of (map f vs, r))

  regroup : (v : A) (read : Read (List A)) → bind (mapped read) (λ vs r. some_of (f v ∷ vs, r)) ≡ mapped (bind read (λ vs r. some_of (v ∷ vs, r)))
  regroup v (Some x) = refl
  regroup v None = refl

  made_at : (n : ℕ) (t : List Token) → many_at follows (made f g) n t ≡ mapped (many_at follows g n t)
  unfolding many_at
  made_at zero t = by_test (follows t) (λ k. rw k refl) (λ k. rw k refl)
  made_at (suc n) t =
      by_test (follows t)
      (λ k. by_read (g.reads t)
      (λ x e. rw (k, e) (ap (λ (u : Read (List B)). bind u (λ vs r. some_of (f x.0 ∷ vs, r))) (made_at n x.1) ∙ regroup x.0 (many_at follows g n x.1)))
      (λ e. rw (k, e) refl))
      (λ k. rw k refl)

  made_reads : (t : List Token) → many_reads follows (made f g) t ≡ mapped (many_reads follows g t)
  unfolding many_reads
  made_reads t = made_at (length t) t

pub indices_are : (ty : RefTypeModel) (t : List Token) → is_funcref ty ≡ true → (indices_of ty).reads t ≡ plain_indices.reads t
unfolding indices_of plain_indices
indices_are ty t k = by_read (index_list.reads t) (λ x e. rw (e, k) refl) (λ e. rw e refl)

pub ref_funcs_are : (ty : RefTypeModel) (t : List Token) → is_funcref ty ≡ false → (indices_of ty).reads t ≡ (ref_funcs_of ty).reads t
unfolding indices_of ref_funcs_of index_list ref_funcs ref_func
ref_funcs_are ty t k =
    rw (made_reads more ref_func_of index t)
    (by_read (many_reads more index t)
    (λ x e. rw (e, k) refl)
    (λ e. rw e refl))
