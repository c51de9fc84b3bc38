-- For loops: the faults of one more name were appended.
use Rattle.std.proofs.Common.{◌≡◌, ℕ, Bool, true, false, not, List, [], ◌∷◌, ◌++◌, refl, sym, ap, ◌∙◌, append_assoc, take, drop, drop-cons, add-one, suc, ◌+◌, ◌<◌, length, get_or}
use Rattle.std.specs.HashSet.{contains, HashSet}
use Rattle.wat_scopes.specs.Spaces.{NameModel, name_view}
use Rattle.wat_scopes.specs.Known.{has_name, HasNames, names, same_names}
use Rattle.wat_scopes.specs.NameFaults.{fault_if, doubled_faults, unknown_faults}
use Rattle.wat_scopes.specs.declared.space.Name.{Name}
use Rattle.wat_scopes.specs.declared.fault.FaultKind.TheVariants.{DoubledName, UnknownName}
use Rattle.wat_scopes.specs.declared.fault.NameFault.{NameFault}
use Rattle.wat_scopes.proofs.Sets.{names_more}

not_not : (b : Bool) → not (not b) ≡ b
not_not true = refl
not_not false = refl

-- a part of the faults that are left was moved to those that were appended
moved : (all o p part left : List NameFault) → all ≡ o ++ (part ++ left) → p ≡ o ++ part
    → all ≡ p ++ left
moved all o p part left e f = e ∙ sym (append_assoc o part left) ∙ ap (λ q. q ++ left) (sym f)

pub doubled_one : {S : Type 0} (s : HashSet Name S) (xs : List Name) (i : ℕ) (d : Name)
    (all o p : List NameFault) (is_new : Bool) → i < length xs → HasNames s (names (take i xs))
    → is_new ≡ not (contains same_names s (get_or xs i d))
    → p ≡ o ++ fault_if (not is_new) DoubledName (get_or xs i d)
    → all ≡ o ++ doubled_faults (names (take i xs)) (drop i xs)
    → all ≡ p ++ doubled_faults (names (take (i + 1) xs)) (drop (i + 1) xs)
doubled_one s xs i d all o p is_new l h e f g =
    let x : Name = get_or xs i d in
    let ms : List NameModel = names (take i xs) in
    let left : List NameFault = doubled_faults (ms ++ name_view x ∷ []) (drop (suc i) xs) in
    let b : not is_new ≡ has_name (name_view x) ms = ap not e ∙ not_not (contains same_names s x) ∙ h x in
    let all_is : all ≡ o ++ (fault_if (has_name (name_view x) ms) DoubledName x ++ left) =
    g ∙ ap (λ ys. o ++ doubled_faults ms ys) (drop-cons xs i d l) in
    let p_is : p ≡ o ++ fault_if (has_name (name_view x) ms) DoubledName x =
    f ∙ ap (λ c. o ++ fault_if c DoubledName x) b in
    moved all o p (fault_if (has_name (name_view x) ms) DoubledName x) left all_is p_is
    ∙ ap (λ ns. p ++ doubled_faults ns (drop (suc i) xs)) (sym (names_more xs i d l))
    ∙ ap (λ k. p ++ doubled_faults (names (take (i + 1) xs)) (drop k xs)) (sym (add-one i))

pub unknown_one : {S : Type 0} (s : HashSet Name S) (xs : List Name) (i : ℕ) (d : Name)
    (all o p : List NameFault) (is_known : Bool) (ds : List NameModel) → i < length xs → HasNames s ds
    → is_known ≡ contains same_names s (get_or xs i d)
    → p ≡ o ++ fault_if (not is_known) UnknownName (get_or xs i d)
    → all ≡ o ++ unknown_faults ds (drop i xs) → all ≡ p ++ unknown_faults ds (drop (i + 1) xs)
unknown_one s xs i d all o p is_known ds l h e f g =
    let x : Name = get_or xs i d in
    let left : List NameFault = unknown_faults ds (drop (suc i) xs) in
    let b : not is_known ≡ not (has_name (name_view x) ds) = ap not (e ∙ h x) in
    let all_is : all ≡ o ++ (fault_if (not (has_name (name_view x) ds)) UnknownName x ++ left) =
    g ∙ ap (λ ys. o ++ unknown_faults ds ys) (drop-cons xs i d l) in
    let p_is : p ≡ o ++ fault_if (not (has_name (name_view x) ds)) UnknownName x =
    f ∙ ap (λ c. o ++ fault_if c UnknownName x) b in
    moved all o p (fault_if (not (has_name (name_view x) ds)) UnknownName x) left all_is p_is
    ∙ ap (λ k. p ++ unknown_faults ds (drop k xs)) (sym (add-one i))
