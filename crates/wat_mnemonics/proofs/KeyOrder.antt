-- The keys of words, and comparisons of words by keys.
use Rattle.std.proofs.Common.{◌≡◌, ℕ, zero, suc, ◌+◌, ◌-◌, ◌*◌, ◌<◌, ◌≤◌, ◌⊎◌, inl, inr, Bool, true, List, [], ◌∷◌, length, drop, get_or, map, refl, sym, ◌∙◌, ap, arith}
use Rattle.std.proofs.Math.Dec.{ltb}
use Rattle.std.proofs.lemmas.List.{get_or-drop}
use Rattle.wat_mnemonics.specs.Prelude.{nat_cmp_is, first_so, second_so, nat_cmp, ordering_then, Ordering, Less, Equal, Greater, cases_lt, ltb-true, get_or-map, length-drop, eq-or-lt_of_le, list_all, words_length, cmp, words, op_count}
use Rattle.wat_mnemonics.specs.Keys.{number_of, key}
use Rattle.wat_mnemonics.specs.declared.keys.TheConstants.{KEYS}
use Rattle.wat_mnemonics.proofs.WordOrder.{less_back, same_so_far}

-- ---- the table

keys_are : KEYS ≡ map key words
keys_are = refl

key_at : (k : ℕ) → k < op_count → get_or KEYS k 0 ≡ key (get_or words k [])
key_at k l =
    ap (λ (xs : List ℕ). get_or xs k 0) keys_are ∙ get_or-map key words k [] 0 (let e = words_length in omega (arith, l, e))

-- ---- bytes

abbrev IsBytes : List ℕ → Type 0
IsBytes t = (i : ℕ) → get_or t i 0 < 256

-- a test that all items of a list and the default pass is passed at each index
passes_at : {X : Type 0} (test : X → Bool) (d : X) → test d ≡ true → (xs : List X) → list_all test xs ≡ true → (k : ℕ) → test (get_or xs k d) ≡ true
passes_at test d p [] e zero = p
passes_at test d p [] e (suc k) = p
passes_at test d p (x ∷ xs) e zero = first_so (test x) (list_all test xs) e
passes_at test d p (x ∷ xs) e (suc k) = passes_at test d p xs (second_so (test x) (list_all test xs) e) k

abbrev is_byte : ℕ → Bool
is_byte b = ltb b 256

abbrev are_bytes : List ℕ → Bool
are_bytes t = list_all is_byte t

words_are : list_all are_bytes words ≡ true
words_are = refl

word_bytes : (k : ℕ) → IsBytes (get_or words k [])
word_bytes k i =
    ltb-true (get_or (get_or words k []) i 0) 256 (passes_at is_byte 0 refl (get_or words k []) (passes_at are_bytes [] refl words words_are k) i)

-- ---- the number of the first bytes decides the order of texts

-- equal numbers have equal bytes
same_bytes : (n : ℕ) (a b : List ℕ) → IsBytes a → IsBytes b → number_of a n ≡ number_of b n → (k : ℕ) → k < n → get_or a k 0 ≡ get_or b k 0
same_bytes zero a b p q e k l = absurd (omega (arith, l))
same_bytes (suc n) a b p q e k l =
    let fronts : number_of a n ≡ number_of b n = omega (arith, e, p n, q n) in
    let last : get_or a n 0 ≡ get_or b n 0 = omega (arith, e, p n, q n) in
    elim (cases_lt k n) [
      | inl below ↦ same_bytes n a b p q fronts k below
      | inr over ↦ (let is : k ≡ n = omega (arith, l, over) in rw is last)
    ]

-- the first byte that differs decides
decides : (n : ℕ) (a b : List ℕ) → ((k : ℕ) → k < n → get_or a k 0 ≡ get_or b k 0) → get_or a n 0 < get_or b n 0 → cmp a b ≡ Less
decides zero [] [] e l = absurd (omega (arith, l))
decides (suc n) [] [] e l = absurd (omega (arith, l))
decides n [] (y ∷ b) e l = refl
decides zero (x ∷ a) [] e l = absurd (omega (arith, l))
decides (suc n) (x ∷ a) [] e l = absurd (omega (arith, l))
decides zero (x ∷ a) (y ∷ b) e l = ap (λ (o : Ordering). ordering_then o (cmp a b)) (sym (nat_cmp_is x y Less l))
decides (suc n) (x ∷ a) (y ∷ b) e l =
    ap (λ (o : Ordering). ordering_then o (cmp a b)) (sym (nat_cmp_is x y Equal (e 0 (omega arith))))
    ∙ decides n a b (λ k s. e (suc k) (omega (arith, s))) l

below_by : (n : ℕ) (a b : List ℕ) → IsBytes a → IsBytes b → number_of a n < number_of b n → cmp a b ≡ Less
below_by zero a b p q l = absurd (omega (arith, l))
below_by (suc n) a b p q l =
    elim (split (number_of a n) (number_of b n) (get_or a n 0) (get_or b n 0) (p n) (q n) l) [
      | inl s ↦ below_by n a b p q s
      | inr s ↦ decides n a b (same_bytes n a b p q s.0) s.1
    ]
  where
    split : (x y u v : ℕ) → u < 256 → v < 256 → x * 256 + u < y * 256 + v → (x < y) ⊎ ((x ≡ y) × (u < v))
    split x y u v p q l =
        elim (cases_lt x y) [
          | inl s ↦ inl s
          | inr s ↦ inr (omega (arith, p, q, l, s), omega (arith, p, q, l, s))
        ]

-- lists of one length, of at most n bytes, compare as their numbers do
by_number : (n : ℕ) (a b : List ℕ) → IsBytes a → IsBytes b → length a ≡ length b → length b ≤ n → cmp a b ≡ nat_cmp (number_of a n) (number_of b n)
by_number n a b p q s l =
    elim (cases_lt (number_of a n) (number_of b n)) [
      | inl u ↦ below_by n a b p q u ∙ nat_cmp_is (number_of a n) (number_of b n) Less u
      | inr u ↦ elim (eq-or-lt_of_le u) [
        | inl e ↦ same_so_far n a b l (same_bytes n a b p q (sym e))
            ∙ sym (nat_cmp_is (length a) (length b) Equal s) ∙ nat_cmp_is (number_of a n) (number_of b n) Equal (sym e)
        | inr v ↦ less_back b a (below_by n b a q p v) ∙ nat_cmp_is (number_of a n) (number_of b n) Greater v
      ]
    ]

-- lists with the same first n elements compare as their remaining elements
by_remaining : (n : ℕ) (a b : List ℕ) → n ≤ length a → n ≤ length b → ((k : ℕ) → k < n → get_or a k 0 ≡ get_or b k 0) → cmp a b ≡ cmp (drop n a) (drop n b)
by_remaining zero a b p q e = refl
by_remaining (suc n) [] b p q e = absurd (omega (arith, p))
by_remaining (suc n) (x ∷ a) [] p q e = absurd (omega (arith, q))
by_remaining (suc n) (x ∷ a) (y ∷ b) p q e =
    ap (λ (o : Ordering). ordering_then o (cmp a b)) (sym (nat_cmp_is x y Equal (e 0 (omega arith))))
    ∙ by_remaining n a b (omega (arith, p)) (omega (arith, q)) (λ k s. e (suc k) (omega (arith, s)))

remaining_bytes : (n : ℕ) (a : List ℕ) → IsBytes a → IsBytes (drop n a)
remaining_bytes n a p i = omega (arith, get_or-drop n a i 0, p (n + i))

-- the number of the last eight bytes
abbrev pub last_key : List ℕ → ℕ
last_key a = key (drop (length a - 8) a)

-- lists of one length, from 8 to 16 bytes, with the same first eight bytes compare as their last
-- eight bytes do
by_last : (a b : List ℕ) → IsBytes a → IsBytes b → length a ≡ length b → 8 ≤ length b → length b ≤ 16 → ((k : ℕ) → k < 8 → get_or a k 0 ≡ get_or b k 0) → cmp a b ≡ nat_cmp (last_key a) (last_key b)
by_last a b p q s l u e =
    rw s (by_remaining (length b - 8) a b (omega (arith, s)) (omega arith) (λ k v. e k (omega (arith, v, u)))
    ∙ by_number 8 (drop (length b - 8) a) (drop (length b - 8) b) (remaining_bytes _ a p) (remaining_bytes _ b q)
    (omega (arith, length-drop (length b - 8) a, length-drop (length b - 8) b, s))
    (omega (arith, length-drop (length b - 8) b, l)))

module _ (k : ℕ) (l : k < op_count) (text : List ℕ) (bytes : IsBytes text) where
  pub key_less : get_or KEYS k 0 < key text → cmp (get_or words k []) text ≡ Less
  key_less less =
      below_by 8 (get_or words k []) text (word_bytes k) bytes (omega (arith, less, key_at k l))

  pub key_greater : key text < get_or KEYS k 0 → cmp (get_or words k []) text ≡ Greater
  key_greater more =
      less_back text (get_or words k []) (below_by 8 text (get_or words k []) bytes (word_bytes k) (omega (arith, more, key_at k l)))

  pub key_same : get_or KEYS k 0 ≡ key text → (i : ℕ) → i < 8 → get_or (get_or words k []) i 0 ≡ get_or text i 0
  key_same same = same_bytes 8 (get_or words k []) text (word_bytes k) bytes (sym (key_at k l) ∙ same)

  pub key_same_last : get_or KEYS k 0 ≡ key text → length (get_or words k []) ≡ length text → 8 ≤ length text → length text ≤ 16
      → cmp (get_or words k []) text ≡ nat_cmp (last_key (get_or words k [])) (last_key text)
  key_same_last same s u v = by_last (get_or words k []) text (word_bytes k) bytes s u v (key_same same)
