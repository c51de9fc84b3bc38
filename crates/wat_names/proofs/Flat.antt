-- Lemmas on lists of lists.
use Rattle.std.proofs.Common.{◌≡◌, ℕ, ◌+◌, ◌<◌, List, [], ◌∷◌, ◌++◌, length, take, get_or, map, sym, ap, ◌∙◌, append_assoc, append-nil}
use Rattle.std.specs.Prelude.{flat_map}
use Rattle.std.proofs.lemmas.Grind.{flat_map-append}
use Rattle.std.proofs.lemmas.List.{take_more, map-append}

-- the lists of the first items of a list, and of one more
pub flat_more : {X M E : Type 0} (g : M → List E) (v : X → M) (xs : List X) (i : ℕ) (x : X)
    → i < length xs → x ≡ get_or xs i x
    → flat_map g (map v (take (i + 1) xs)) ≡ flat_map g (map v (take i xs)) ++ g (v x)
flat_more g v xs i x l e =
    let ys = map v (take i xs) in
    ap (λ zs. flat_map g (map v zs)) (take_more xs i x l)
    ∙ ap (flat_map g) (map-append v (take i xs) (get_or xs i x ∷ []))
    ∙ ap (λ y. flat_map g (ys ++ v y ∷ [])) (sym e)
    ∙ flat_map-append g ys (v x ∷ []) ∙ ap (λ zs. flat_map g ys ++ zs) (append-nil (g (v x)))

-- for loops: one more item of a list, whose first i items were added
pub flat_item : {X M E A : Type 0} (f : E → List A) (g : M → List E) (v : X → M) (xs : List X) (i : ℕ)
    (x : X) → i < length xs → x ≡ get_or xs i x → (old mid new : List A)
    → mid ≡ old ++ flat_map f (flat_map g (map v (take i xs))) → new ≡ mid ++ flat_map f (g (v x))
    → new ≡ old ++ flat_map f (flat_map g (map v (take (i + 1) xs)))
flat_item f g v xs i x l e old mid new h k =
    let zs = flat_map g (map v (take i xs)) in
    k ∙ ap (λ ls. ls ++ flat_map f (g (v x))) h
    ∙ append_assoc old (flat_map f zs) (flat_map f (g (v x)))
    ∙ ap (λ ls. old ++ ls) (sym (flat_map-append f zs (g (v x))))
    ∙ ap (λ ls. old ++ flat_map f ls) (sym (flat_more g v xs i x l e))
