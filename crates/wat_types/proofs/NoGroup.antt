-- A group that begins with none of the other words can only have the last form.
use Rattle.std.specs.Prelude.{◌≡◌, ℕ, true, false, List, [], ◌∷◌, None, codes, refl}
use Rattle.wat_types.specs.Prelude.{Production, Token, LParen, Keyword, begins_lparen, begins_group, group, made, begins_index, by_test, abstract_, abstract_heap_type, heap_type, short, shorthand, ref_type}

no_group : {A : Type 0} (w : List ℕ) (g : Production A) (t : List Token) → begins_group w t ≡ false → (group w g).reads t ≡ None
no_group w g [] e = refl
no_group w g (LParen ∷ []) e = refl
no_group w g (LParen ∷ Keyword k ∷ t) e = rw e refl
no_group w g (LParen ∷ _ ∷ t) e = refl
no_group w g (_ ∷ t) e = refl

-- ---- heap types

pub shared_heap : (t : List Token) → begins_lparen t ≡ true → begins_index t ≡ false → begins_group (codes "exact") t ≡ false
    → heap_type.reads t ≡ (made (λ a. abstract_ true a) (group (codes "shared") abstract_heap_type)).reads t
unfolding heap_type abstract_heap_type
shared_heap [] o i e = absurd cc
shared_heap (LParen ∷ t) o i e = rw e (by_test (begins_group (codes "shared") (LParen ∷ t)) (λ k. rw k refl) (λ k. rw (k, no_group (codes "shared") abstract_heap_type (LParen ∷ t) k) refl))
shared_heap (_ ∷ t) o i e = absurd cc

-- ---- reference types

pub shared_ref : (t : List Token) → begins_lparen t ≡ true → begins_group (codes "ref") t ≡ false
    → ref_type.reads t ≡ (made (short true) (group (codes "shared") shorthand)).reads t
unfolding ref_type shorthand
shared_ref [] o e = absurd cc
shared_ref (LParen ∷ t) o e = rw e (by_test (begins_group (codes "shared") (LParen ∷ t)) (λ k. rw k refl) (λ k. rw (k, no_group (codes "shared") shorthand (LParen ∷ t) k) refl))
shared_ref (_ ∷ t) o e = absurd cc
