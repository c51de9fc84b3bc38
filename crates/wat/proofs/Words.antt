-- Words up to the first that passes a test, and after it. `h` gives the bytes of a word.
use Rattle.std.proofs.Common.{◌≡◌, ℕ, ◌+◌, ◌≤◌, List, length, drop, map, sym, ap, ◌∙◌, arith, Bool, true, not}
use Rattle.std.specs.List.Sorted.{IsPermutation}
use Rattle.std.proofs.lemmas.List.{drop-drop, drop-map}
use Rattle.std.proofs.lemmas.List.Sorted.{All-permutation}
use Rattle.std.proofs.lemmas.List.Sums.{AllPass-from_list_all, list_all-from_AllPass, prefix_len-le-length}
use Rattle.wat_answers.specs.Prelude.{after_first, list_all, position_or_len, length-map}

-- what stands after the first word that passes, if `rest` begins with that word
pub end_within : {X A : Type 0} (p : A → Bool) (h : X → A) (xs : List X) (n : ℕ) → n ≡ position_or_len p (map h xs) → n ≤ length xs
end_within p h xs n e = omega (arith, prefix_len-le-length (λ x. not (p x)) (map h xs), length-map xs h)

pub after_is : {X A : Type 0} (p : A → Bool) (h : X → A) (xs rest : List X) (n : ℕ) → n ≡ position_or_len p (map h xs) → rest ≡ drop n xs → after_first p (map h xs) ≡ map h (drop 1 rest)
after_is p h xs rest n e r =
    sym (ap (λ (k : ℕ). drop (k + 1) (map h xs)) e) ∙ drop-map h (n + 1) xs ∙ ap (map h) (sym (drop-drop 1 n xs) ∙ ap (drop 1) (sym r))

-- what all pass before they are moved, all pass after it
pub all_moved : {X : Type 0} (p : X → Bool) (xs ys : List X) → IsPermutation xs ys → list_all p xs ≡ true → list_all p ys ≡ true
all_moved p xs ys moved all = list_all-from_AllPass p ys (All-permutation (λ x. p x ≡ true) xs ys moved (AllPass-from_list_all p xs all))
