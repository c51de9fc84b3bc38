-- The contract of `get_mut`, in terms of `slice_get`.
use Rattle.std.proofs.Common.{◌≡◌, ℕ, List, refl, ap, length, MutBor, Some, None}
use Rattle.std.specs.List.{slice_get, IsItemAtMut}
use Rattle.std.specs.Option.{option_map}
use Rattle.std.proofs.lemmas.Option.{slice_get_past, slice_get_read}
use Rattle.wat_links.specs.declared.import.ImportGroup1ItemOf.{ImportGroup1ItemOf}
use Rattle.wat_links.specs.Lend.{typed_sig_at}

pub get_found : {X : Type 0} (xs : List X) (i : ℕ) (r : MutBor X) → IsItemAtMut xs i (Some r) → slice_get xs i ≡ Some r.now
get_found xs i r item = slice_get_read xs (length xs) i r.now refl item.3.0 (item.3.1 r.now)

get_missing : {X : Type 0} (xs : List X) (i : ℕ) → IsItemAtMut xs i None → slice_get xs i ≡ None
get_missing xs i item = slice_get_past xs i item.3

pub sig_found : {N S : Type 0} (xs : List (ImportGroup1ItemOf N S)) (i : ℕ) (r : MutBor (ImportGroup1ItemOf N S)) → IsItemAtMut xs i (Some r) → typed_sig_at i xs ≡ Some r.now.sig
sig_found xs i r item = ap (option_map (λ x. x.sig)) (get_found xs i r item)

pub sig_missing : {N S : Type 0} (xs : List (ImportGroup1ItemOf N S)) (i : ℕ) → IsItemAtMut xs i None → typed_sig_at i xs ≡ None
sig_missing xs i item = ap (option_map (λ x. x.sig)) (get_missing xs i item)
