-- Lanes under the identity view.
use Rattle.std.proofs.Common.{◌≡◌, List, [], ◌∷◌, ◌++◌, map, length, get_or, arith, refl, ap, ◌∙◌}
use Rattle.wat_types.specs.Prelude.{map-append, F32, F64}
use Rattle.wat_operands.specs.Vector.{f32_of, f64_of}

pub items_again : {A : Type 0} (xs : List A) → map (λ n. n) xs ≡ xs
items_again [] = refl
items_again {A} (x ∷ xs) = ap (λ (u : List A). x ∷ u) (items_again xs)

pub f32s_again : (xs : List F32) → map f32_of (map (λ x. x.bits) xs) ≡ xs
f32s_again [] = refl
f32s_again (x ∷ xs) = ap (λ (u : List F32). x ∷ u) (f32s_again xs)

pub f64s_again : (xs : List F64) → map f64_of (map (λ x. x.bits) xs) ≡ xs
f64s_again [] = refl
f64s_again (x ∷ xs) = ap (λ (u : List F64). x ∷ u) (f64s_again xs)

pub ruleset lanes = (items_again, f32s_again, f64s_again)

pub map_both : {X A : Type 0} (view : X → A) (xs ys : List X) → map view (xs ++ ys) ≡ map view xs ++ map view ys
map_both view xs ys = map-append view xs ys

-- lists of two, four and eight, item by item
pub two_items : {A : Type 0} (xs : List A) (a b : A) → length xs ≡ 2 → get_or xs 0 a ∷ (get_or xs 1 b ∷ []) ≡ xs
two_items (x0 ∷ x1 ∷ []) a b l = refl
two_items _ a b l = absurd (omega (arith, l))

pub four_items : {A : Type 0} (xs : List A) (a b c d : A) → length xs ≡ 4 → get_or xs 0 a ∷ (get_or xs 1 b ∷ (get_or xs 2 c ∷ (get_or xs 3 d ∷ []))) ≡ xs
four_items (x0 ∷ x1 ∷ x2 ∷ x3 ∷ []) a b c d l = refl
four_items _ a b c d l = absurd (omega (arith, l))

pub eight_items : {A : Type 0} (xs : List A) (a b c d e f g h : A) → length xs ≡ 8
    → get_or xs 0 a ∷ (get_or xs 1 b ∷ (get_or xs 2 c ∷ (get_or xs 3 d ∷ (get_or xs 4 e ∷ (get_or xs 5 f ∷ (get_or xs 6 g ∷ (get_or xs 7 h ∷ []))))))) ≡ xs
eight_items (x0 ∷ x1 ∷ x2 ∷ x3 ∷ x4 ∷ x5 ∷ x6 ∷ x7 ∷ []) a b c d e f g h l = refl
eight_items _ a b c d e f g h l = absurd (omega (arith, l))

pub both : {A : Type 0} (us xs vs ys : List A) → us ≡ xs → vs ≡ ys → us ++ vs ≡ xs ++ ys
both us xs vs ys e f = ap (λ (u : List _). u ++ vs) e ∙ ap (λ (v : List _). xs ++ v) f
