-- Lemmas about lists of names, and about sets of names.
use Rattle.std.proofs.Common.{◌≡◌, ℕ, Bool, true, false, ◌||◌, List, [], ◌∷◌, ◌++◌, refl, sym, ap, ◌∙◌, cond, subst, append_assoc, take, ◌+◌, ◌<◌, length, get_or}
use Rattle.std.proofs.Math.Bool.{or_comm, or-false}
use Rattle.std.proofs.lemmas.List.{take_more, map-append}
use Rattle.std.specs.HashSet.{contains, HashSet}
use Rattle.wat_scopes.specs.Spaces.{NameModel, name_view, same_name}
use Rattle.wat_scopes.specs.Known.{has_name, HasNames, names, same_names}
use Rattle.wat_scopes.specs.Laws.Known.{has_name-append, same_name_sym}
use Rattle.wat_scopes.specs.declared.space.Name.{Name}
use Rattle.wat_scopes.specs.declared.space.Space.TheVariants as kinds

cond_or : (a b : Bool) → cond a true b ≡ (a || b)
cond_or true b = refl
cond_or false b = refl

pub names_more : (xs : List Name) (i : ℕ) (d : Name) → i < length xs
    → names (take (i + 1) xs) ≡ names (take i xs) ++ name_view (get_or xs i d) ∷ []
names_more xs i d l = ap names (take_more xs i d l) ∙ map-append name_view (take i xs) (get_or xs i d ∷ [])

-- one more name in a set
has_names_push : {S : Type 0} (s n : HashSet Name S) (k : Name) (ns : List NameModel)
    → ((q : Name) → contains same_names n q ≡ cond (same_names k q) true (contains same_names s q))
    → HasNames s ns → HasNames n (ns ++ name_view k ∷ [])
has_names_push s n k ns u h q =
    u q
    ∙ cond_or (same_names k q) (contains same_names s q)
    ∙ ap (λ b. same_names k q || b) (h q)
    ∙ or_comm (same_names k q) (has_name (name_view q) ns)
    ∙ ap (λ b. has_name (name_view q) ns || b) (same_name_sym (name_view k) (name_view q) ∙ sym (or-false (same_names q k)))
    ∙ sym (has_name-append (name_view q) ns (name_view k ∷ []))

-- for loops: the set has one more name of a list
pub added_one : {S : Type 0} (s n : HashSet Name S) (xs : List Name) (i : ℕ) (d : Name)
    (ns : List NameModel) → i < length xs
    → ((q : Name) → contains same_names n q
    ≡ cond (same_names (get_or xs i d) q) true (contains same_names s q))
    → HasNames s (ns ++ names (take i xs)) → HasNames n (ns ++ names (take (i + 1) xs))
added_one s n xs i d ns l u h =
    let e : (ns ++ names (take i xs)) ++ name_view (get_or xs i d) ∷ [] ≡ ns ++ names (take (i + 1) xs) =
    append_assoc ns (names (take i xs)) (name_view (get_or xs i d) ∷ [])
    ∙ ap (λ ms. ns ++ ms) (sym (names_more xs i d l)) in
    subst (λ ms. HasNames n ms) e (has_names_push s n (get_or xs i d) (ns ++ names (take i xs)) u h)

-- the name that a loop would read after the end of its list
abbrev pub nowhere : Name
nowhere = record { space = kinds.«Type»; id = record { name = record { ref_ptr = (0, 0); now = [] }; span = record { offset = 0 } } }
