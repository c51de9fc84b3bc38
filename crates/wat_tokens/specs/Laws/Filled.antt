-- Laws: lists that have an item, and lists with another list appended.
use Rattle.std.proofs.Common.{◌≡◌, false, List, [], ◌∷◌, ◌++◌, refl, ap, ◌∙◌, append_assoc}
use Rattle.wat_tokens.specs.Prelude.{Extends, no_items}

pub filled_before : {A : Type 0} (xs ys : List A) → no_items xs ≡ false
    → no_items (xs ++ ys) ≡ false
filled_before [] ys e = absurd cc
filled_before (x ∷ xs) ys e = refl

pub filled_behind : {A : Type 0} (xs ys : List A) → no_items ys ≡ false
    → no_items (xs ++ ys) ≡ false
filled_behind [] ys e = e
filled_behind (x ∷ xs) ys e = refl

pub extends_then : {X : Type 0} (xs ys zs : List X) → Extends xs ys → Extends ys zs
    → Extends xs zs
extends_then {X} xs ys zs (more, is) (last, so) =
    (more ++ last, so ∙ ap (λ (l : List X). l ++ last) is ∙ append_assoc xs more last)

pub extends_is : {X : Type 0} (xs ys zs : List X) → Extends xs ys → zs ≡ ys → Extends xs zs
extends_is xs ys zs (more, is) same = (more, same ∙ is)
