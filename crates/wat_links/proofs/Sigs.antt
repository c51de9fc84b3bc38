-- Signatures by number.
use Rattle.std.proofs.Common.{◌≡◌, ◌+◌, ℕ, zero, suc, [], ◌∷◌, ◌++◌, length, refl, sym, ap, replicate, slice_get}
use Rattle.std.proofs.lemmas.Option.{slice_get-map}
use Rattle.std.proofs.lemmas.List.{replicate-append-replicate, length-map}
use Rattle.wat_links.specs.declared.import.ImportItemsOf.{ImportItemsOf}
use Rattle.wat_links.specs.declared.import.ImportItemsOf.TheVariants.{Single, Group1, Group2}
use Rattle.wat_links.specs.Import.{item_sigs, item_count, own_sigs}
use Rattle.wat_links.specs.Lend.{sig_at, only_first}

length_of_copies : {S : Type 0} (n : ℕ) (s : S) → length (replicate n s) ≡ n
length_of_copies zero s = refl
length_of_copies (suc n) s = ap suc (length_of_copies n s)

-- the number of signatures is the number of items
pub one_each : {N S : Type 0} (x : ImportItemsOf N S) → length (item_sigs x) ≡ item_count x
one_each (Single m n s) = refl
one_each (Group1 m xs) = simp length-map
one_each (Group2 m s xs) = length_of_copies (length xs.items) s

alone : {S : Type 0} (i : ℕ) (s : S) → slice_get (s ∷ []) i ≡ only_first i s
alone zero s = refl
alone (suc i) s = refl

-- signature number i is the signature at index i
pub sig_is_own : {N S : Type 0} (i : ℕ) (x : ImportItemsOf N S) → slice_get (own_sigs x) i ≡ sig_at i x
sig_is_own i (Single m n s) = alone i s
sig_is_own i (Group1 m xs) = slice_get-map (λ x. x.sig) xs.items i
sig_is_own i (Group2 m s xs) = alone i s

-- one more copy, appended to the others
pub one_more_copy : {S : Type 0} (n : ℕ) (s : S) → replicate (n + 1) s ≡ replicate n s ++ s ∷ []
one_more_copy n s = sym (replicate-append-replicate n 1 s)
