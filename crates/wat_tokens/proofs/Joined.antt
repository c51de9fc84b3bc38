-- If the list with the parts of one more group isn't empty, the list with the parts of all groups
-- isn't empty.
use Rattle.std.specs.Prelude.{◌≡◌, ◌≤◌, Bool, true, false, List, [], ◌∷◌, ◌++◌, Some, None, refl}
use Rattle.wat_tokens.specs.Laws.Prelude.{Token, Production, Read, by_read, many_reads, add_all, add_read, adding_goes_on, adding_fails, join, joined_behind, NotHeapless, with_rest, no_items}

module _ {A : Type 0} where
  stays_filled : (gs : List (List A)) (before : List A) (r : List Token) → no_items before ≡ false → NotHeapless no_items (with_rest (add_all join gs before) r)
  stays_filled [] before r e = e
  stays_filled (g ∷ gs) [] r e = absurd cc
  stays_filled (g ∷ gs) (x ∷ before) r e = stays_filled gs (x ∷ (before ++ g)) r refl

  rest_filled : (before : List A) (x : Read (List (List A))) → no_items before ≡ false → NotHeapless no_items (joined_behind before x)
  rest_filled before (Some x) e = stays_filled x.0 before x.1 e
  rest_filled before None e = tt

  pub joined_not_heapless : (follows : List Token → Bool) (g : Production (List A)) → 1 ≤ g.least → (before : List A) (t : List Token) (total : Read (List A)) → follows t ≡ true
      → NotHeapless no_items (add_read join before (g.reads t)) → joined_behind before (many_reads follows g t) ≡ total → NotHeapless no_items total
  joined_not_heapless follows g consumes before t total k h e = rw (← e) (by_read (add_read join before (g.reads t))
      (λ y m. rw (adding_goes_on join follows g consumes before t y.0 y.1 k m) (rest_filled y.0 (many_reads follows g y.1) (rw m at h)))
      (λ m. rw (adding_fails join follows g consumes before t k m) tt))
