-- Names that are defined and used (Core Specification, Text Format, "Contexts").
use Rattle.std.specs.Prelude.{◌≡◌, Bool, true, false, not, ◌&&◌, ◌||◌, List, [], ◌∷◌, map}
use Rattle.std.specs.HashSet.{contains, HashSet}
use Rattle.wat_scopes.specs.Spaces.{NameModel, name_view, same_name}
use Rattle.wat_scopes.specs.declared.space.Name.{Name}

-- one of the names is n
abbrev pub has_name : NameModel → List NameModel → Bool
has_name n [] = false
has_name n (m ∷ ms) = same_name n m || has_name n ms

-- no two of the names are the same
abbrev pub distinct : List NameModel → Bool
distinct [] = true
distinct (n ∷ ns) = not (has_name n ns) && distinct ns

-- each of the names us is one of ds
abbrev pub all_known : List NameModel → List NameModel → Bool
all_known ds [] = true
all_known ds (u ∷ us) = has_name u ds && all_known ds us

abbrev pub names : List Name → List NameModel
names ns = map name_view ns

abbrev pub same_names : Name → Name → Bool
same_names a b = same_name (name_view a) (name_view b)

-- the set has exactly these names
abbrev pub HasNames : {S : Type 0} → HashSet Name S → List NameModel → Type 0
HasNames s ns = (q : Name) → contains same_names s q ≡ has_name (name_view q) ns
