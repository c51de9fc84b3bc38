-- Laws: invariants of a loop that reads a list of parts.
use Rattle.std.proofs.Common.{ap, sym, ◌∙◌, append_assoc, ◌≡◌, ◌≤◌, ℕ, zero, suc, Bool, true, false, List, [], ◌∷◌, ◌++◌, length, Some, None, refl}
use Rattle.std.proofs.lemmas.List.{append-nil}
use Rattle.wat_tokens.specs.Prelude.{Token, Read, bind, Production, some_of, after_front, many_at, many_reads, NotHeapless, no_items}
use Rattle.wat_tokens.specs.Laws.Filled.{filled_behind}
use Rattle.wat_tokens.specs.Laws.Many.{many_step, many_stop, many_fails}
use Rattle.wat_tokens.specs.Laws.Production.{by_read}

pub front_of_none : {A : Type 0} (read : Read (List A)) → after_front [] read ≡ read
front_of_none (Some x) = refl
front_of_none None = refl

-- ---- the loop's invariant: the values so far, and the values still to be read

module _ {A : Type 0} (begins : List Token → Bool) (g : Production A) where
  regroup : (before : List A) (v : A) (read : Read (List A))
      → after_front before (bind read (λ vs r. Some (v ∷ vs, r)))
      ≡ after_front (before ++ v ∷ []) read
  regroup before v (Some x) =
      ap (λ (vs : List A). some_of (vs, x.1)) (sym (append_assoc before (v ∷ []) x.0))
  regroup before v None = refl

  pub loop_goes_on : 1 ≤ g.least → (before : List A) (t : List Token) (v : A) (t' : List Token)
      → begins t ≡ true → g.reads t ≡ Some (v, t')
      → after_front before (many_reads begins g t)
      ≡ after_front (before ++ v ∷ []) (many_reads begins g t')
  loop_goes_on consumes before t v t' k e =
      ap (λ (u : Read (List A)). after_front before u) (many_step begins g consumes t v t' k e)
      ∙ regroup before v (many_reads begins g t')

  pub loop_ends : (before : List A) (t : List Token) → begins t ≡ false
      → after_front before (many_reads begins g t) ≡ Some (before, t)
  loop_ends before t k =
      rw (many_stop begins g t k) (ap (λ (vs : List A). some_of (vs, t)) (append-nil before))

  pub loop_fails : (before : List A) (t : List Token) → begins t ≡ true → g.reads t ≡ None
      → after_front before (many_reads begins g t) ≡ None
  loop_fails before t k e = rw (many_fails begins g t k e) refl

  rest_after : (before : List A) (v : A) (x : Read (List A))
      → NotHeapless no_items (after_front before (bind x (λ vs r. Some (v ∷ vs, r))))
  rest_after before v (Some y) = filled_behind before (v ∷ y.0) refl
  rest_after before v None = tt

  begun_after : (before : List A) (n : ℕ) (t : List Token) → begins t ≡ true
      → NotHeapless no_items (after_front before (many_at begins g n t))
  unfolding many_at
  begun_after before zero t k = rw k tt
  begun_after before (suc n) t k =
      rw k (by_read (g.reads t)
      (λ x e. rw e (rest_after before x.0 (many_at begins g n x.1)))
      (λ e. rw e tt))

  -- if a part begins, the loop doesn't read an empty list
  pub not_heapless : (before : List A) (t : List Token) (total : Read (List A)) → begins t ≡ true
      → after_front before (many_reads begins g t) ≡ total → NotHeapless no_items total
  unfolding many_reads
  not_heapless before t total k e = rw (← e) (begun_after before (length t) t k)
