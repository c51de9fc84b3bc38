-- The index of a word among words in order.
use Rattle.std.proofs.Common.{◌≡◌, ℕ, zero, suc, ◌+◌, ◌<◌, ◌≤◌, List, [], ◌∷◌, length, get_or, refl, sym, ◌∙◌, ap, arith, IsTrue, inl, inr, ◌⊎◌}
use Rattle.wat_mnemonics.specs.Prelude.{nat_cmp_is, nat_cmp, ordering_reverse, ordering_then, Ordering, nat_list_cmp_total, Less, Equal, Greater, cmp, rises}
use Rattle.wat_mnemonics.specs.Laws.Order.{less_between, self_equal}

greater_back : (x y : List ℕ) → cmp x y ≡ Greater → cmp y x ≡ Less
greater_back x y h = nat_list_cmp_total.antisymm y x ∙ ap ordering_reverse h

pub less_back : (x y : List ℕ) → cmp x y ≡ Less → cmp y x ≡ Greater
less_back x y h = nat_list_cmp_total.antisymm y x ∙ ap ordering_reverse h

-- every entry below an entry that is less is less
pub below_less : (xs : List (List ℕ)) (t : List ℕ) (m : ℕ) → IsTrue (rises xs) → m < length xs → cmp (get_or xs m []) t ≡ Less → (k : ℕ) → k < m + 1 → cmp (get_or xs k []) t ≡ Less
below_less xs t m h b e k l =
    elim (split k m (omega arith)) [
      | inl p ↦ nat_list_cmp_total.trans (get_or xs k []) (get_or xs m []) t (less_between xs k m h p b) e
      | inr p ↦ rw p e
    ]
  where
    split : (k m : ℕ) → k ≤ m → (k < m) ⊎ (k ≡ m)
    split k m l = grind arith

-- every entry above an entry that is greater is greater
pub above_greater : (xs : List (List ℕ)) (t : List ℕ) (m : ℕ) → IsTrue (rises xs) → cmp (get_or xs m []) t ≡ Greater → (k : ℕ) → m ≤ k → k < length xs → cmp (get_or xs k []) t ≡ Greater
above_greater xs t m h e k l b =
    elim (split m k l) [
      | inl p ↦ less_back t (get_or xs k []) (nat_list_cmp_total.trans t (get_or xs m []) (get_or xs k []) (greater_back (get_or xs m []) t e) (less_between xs m k h p b))
      | inr p ↦ rw (← p) e
    ]
  where
    split : (m k : ℕ) → m ≤ k → (m < k) ⊎ (m ≡ k)
    split m k l = grind arith

-- a text is at no index if each entry is less or greater
pub absent : (xs : List (List ℕ)) (t : List ℕ) (low high : ℕ) → high ≤ low → ((k : ℕ) → k < low → cmp (get_or xs k []) t ≡ Less) → ((k : ℕ) → high ≤ k → k < length xs → cmp (get_or xs k []) t ≡ Greater) → (k : ℕ) → k < length xs → get_or xs k [] ≡ t → ⊥
absent xs t low high h less more k l e =
    elim (split k low) [
      | inl p ↦ let a : cmp (get_or xs k []) t ≡ Less = less k p in
          let b : cmp (get_or xs k []) t ≡ Equal = rw e (self_equal t) in
          let f : Less ≡ Equal = sym a ∙ b in cc
      | inr p ↦ let a : cmp (get_or xs k []) t ≡ Greater = more k (omega arith) l in
          let b : cmp (get_or xs k []) t ≡ Equal = rw e (self_equal t) in
          let f : Greater ≡ Equal = sym a ∙ b in cc
    ]
  where
    split : (k low : ℕ) → (k < low) ⊎ (low ≤ k)
    split k low = grind arith

-- ---- comparisons of lists with the same first n bytes, with 0 for each byte that the second lacks

pub same_so_far : (n : ℕ) (a b : List ℕ) → length b ≤ n → ((k : ℕ) → k < n → get_or a k 0 ≡ get_or b k 0) → cmp a b ≡ nat_cmp (length a) (length b)
same_so_far n [] [] l e = refl
same_so_far n [] (y ∷ b) l e = nat_cmp_is 0 (length (y ∷ b)) Less (omega arith)
same_so_far n (x ∷ a) [] l e = nat_cmp_is (length (x ∷ a)) 0 Greater (omega arith)
same_so_far zero (x ∷ a) (y ∷ b) l e = absurd (omega (arith, l))
same_so_far (suc n) (x ∷ a) (y ∷ b) l e =
    ap (λ (o : Ordering). ordering_then o (cmp a b)) (sym (nat_cmp_is x y Equal (e 0 (omega arith))))
    ∙ same_so_far n a b (omega (arith, l)) (λ k s. e (suc k) (omega (arith, s)))
    ∙ cmp-suc (length a) (length b)
  where
    cmp-suc : (m n : ℕ) → nat_cmp m n ≡ nat_cmp (suc m) (suc n)
    cmp-suc m n = grind arith
