-- Fields of the `producers` section.
use Rattle.std.proofs.Common.{◌≡◌, ℕ, ◌==◌, true, false, not, ◌&&◌, List, [], ◌∷◌, length, map, refl, arith}
use Rattle.std.specs.Borrow.{Bor}
use Rattle.wat_print_module.specs.Prelude.{nat_tests, no_items, names_view, each, versioned_form}

pub empty_seen : {X A : Type 0} (view : X → A) (xs : List X)
    → (length xs == 0) ≡ no_items (map view xs)
empty_seen view [] = refl
empty_seen view (x ∷ xs) =
    let e : (length (x ∷ xs) == 0) ≡ false = grind (arith, nat_tests) in e

pub filled_printable : (xs : List (Bor (List ℕ) × Bor (List ℕ))) → (length xs == 0) ≡ false
    → each versioned_form.printable (names_view xs) ≡ true
    → not (no_items (names_view xs)) && each versioned_form.printable (names_view xs) ≡ true
filled_printable [] e h = absurd cc
filled_printable (x ∷ xs) e h = h
