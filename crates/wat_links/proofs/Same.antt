-- Clones of items, one by one.
use Rattle.std.proofs.Common.{◌≡◌, ◌<◌, ◌+◌, ℕ, false, List, [], ◌∷◌, ◌++◌, length, take, get_or, refl, sym, ap, ◌∙◌, subst, add-one, arith, map}
use Rattle.std.proofs.Math.Seq.{take-suc}
use Rattle.wat_links.specs.Prelude.{map_push, no_items, HeldName, typed_view, SameAll}
use Rattle.wat_links.specs.Import.{SameTyped}
use Rattle.wat_links.specs.declared.item.ItemSig.{ItemSig}
use Rattle.wat_links.specs.declared.import.ImportGroup1ItemOf.{ImportGroup1ItemOf}

abbrev Typed : Type 0
Typed = ImportGroup1ItemOf HeldName ItemSig

same_push : (xs ys : List Typed) (x y : Typed) → SameAll xs ys → SameTyped x y → SameAll (xs ++ x ∷ []) (ys ++ y ∷ [])
same_push [] [] x y p q = (q, tt)
same_push [] (b ∷ ys) x y p q = absurd p
same_push (a ∷ xs) [] x y p q = absurd p
same_push (a ∷ xs) (b ∷ ys) x y p q = (p.0, same_push xs ys x y p.1 q)

taken : (xs : List Typed) (i : ℕ) (x : Typed) → x ≡ get_or xs i x → i < length xs → take (i + 1) xs ≡ take i xs ++ x ∷ []
taken xs i x e lt = rw add-one (take-suc xs i x lt ∙ ap (λ (u : Typed). take i xs ++ u ∷ []) (sym e))

pub same_next : (xs ys : List Typed) (i : ℕ) (x y : Typed) → x ≡ get_or xs i x → i < length xs → SameAll (take i xs) ys → SameTyped x y → SameAll (take (i + 1) xs) (ys ++ y ∷ [])
same_next xs ys i x y e lt p q = subst (λ (u : List Typed). SameAll u (ys ++ y ∷ [])) (sym (taken xs i x e lt)) (same_push (take i xs) ys x y p q)

pub view_next : (xs ys : List Typed) (i : ℕ) (x y : Typed) → x ≡ get_or xs i x → i < length xs → map typed_view ys ≡ map typed_view (take i xs) → typed_view y ≡ typed_view x → map typed_view (ys ++ y ∷ []) ≡ map typed_view (take (i + 1) xs)
view_next xs ys i x y e lt p q = rw (taken xs i x e lt, map_push typed_view ys y, map_push typed_view (take i xs) x, p, q) refl

pub some_items : (xs : List Typed) (i : ℕ) → i < length xs → no_items (map typed_view xs) ≡ false
some_items [] i lt = absurd (omega arith)
some_items (x ∷ xs) i lt = refl

pub ruleset clone_steps = (same_next, view_next, some_items)
