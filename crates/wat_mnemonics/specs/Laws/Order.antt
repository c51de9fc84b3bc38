-- Laws: words in strict order, and the words of the table.
use Rattle.std.proofs.Common.{◌≡◌, ℕ, suc, zero, ◌<◌, List, [], ◌∷◌, length, get_or, refl, sym, ◌∙◌, arith, IsTrue, inl, inr}
use Rattle.wat_tokens.specs.Laws.Prelude.{first_so, second_so, is_lt, ordering_reverse, nat_list_cmp_total, cases_lt, false≢true, eq-or-lt_of_le, Ordering, Less, Equal, Greater}
use Rattle.wat_mnemonics.specs.Order.{cmp, rises}

less_from : (o : Ordering) → IsTrue (is_lt o) → o ≡ Less
less_from Less h = refl
less_from Equal h = absurd (false≢true h)
less_from Greater h = absurd (false≢true h)

rises-tail : (x : List ℕ) (ys : List (List ℕ)) → IsTrue (rises (x ∷ ys)) → IsTrue (rises ys)
rises-tail x [] h = refl
rises-tail x (y ∷ ys) h = second_so (is_lt (cmp x y)) (rises (y ∷ ys)) h

first_less : (x : List ℕ) (ys : List (List ℕ)) (k : ℕ) → IsTrue (rises (x ∷ ys)) → k < length ys
    → cmp x (get_or ys k []) ≡ Less
first_less x [] k h l = absurd (omega arith)
first_less x (y ∷ ys) zero h l = less_from _ (first_so (is_lt (cmp x y)) (rises (y ∷ ys)) h)
first_less x (y ∷ ys) (suc k) h l =
    nat_list_cmp_total.trans x y (get_or ys k [])
    (less_from _ (first_so (is_lt (cmp x y)) (rises (y ∷ ys)) h))
    (first_less y ys k (second_so (is_lt (cmp x y)) (rises (y ∷ ys)) h) (omega arith))

pub less_between : (xs : List (List ℕ)) (j k : ℕ) → IsTrue (rises xs) → j < k → k < length xs
    → cmp (get_or xs j []) (get_or xs k []) ≡ Less
less_between [] j k h a b = absurd (omega arith)
less_between (x ∷ xs) j zero h a b = absurd (omega arith)
less_between (x ∷ xs) zero (suc k) h a b = first_less x xs k h (omega arith)
less_between (x ∷ xs) (suc j) (suc k) h a b =
    less_between xs j k (rises-tail x xs h) (omega arith) (omega arith)

own_reverse : (o : Ordering) → o ≡ ordering_reverse o → o ≡ Equal
own_reverse Less e = cc
own_reverse Equal e = refl
own_reverse Greater e = cc

pub self_equal : (x : List ℕ) → cmp x x ≡ Equal
self_equal x = own_reverse (cmp x x) (nat_list_cmp_total.antisymm x x)

-- two indices of a strictly ascending list with the same entry are the same
pub same_index : (xs : List (List ℕ)) (j k : ℕ) → IsTrue (rises xs) → j < length xs → k < length xs
    → get_or xs j [] ≡ get_or xs k [] → j ≡ k
same_index xs j k h a b e =
    elim (cases_lt j k) [
      | inl p ↦ let f : Less ≡ Equal =
          sym (less_between xs j k h p b) ∙ (rw e (self_equal (get_or xs k []))) in cc
      | inr p ↦ elim (eq-or-lt_of_le p) [
        | inl q ↦ sym q
        | inr q ↦ let f : Less ≡ Equal =
            sym (less_between xs k j h q a) ∙ (rw e (self_equal (get_or xs k []))) in cc
      ]
    ]
