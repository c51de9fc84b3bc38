-- The names of identifiers and indices in an index space.
use Rattle.std.specs.Prelude.{ℕ, List, [], ◌∷◌, ◌++◌, Option, Some, None, flat_map}
use Rattle.wat_tokens.specs.Index.{IndexModel, number, name}
use Rattle.wat_scopes.specs.Spaces.{SpaceModel, NameModel, name_in}

-- the name of an identifier, if there is one
abbrev pub by_id : SpaceModel → Option (List ℕ) → List NameModel
by_id s None = []
by_id s (Some n) = name_in s n ∷ []

-- the name of an index: a number uses no name
abbrev pub by_index : SpaceModel → IndexModel → List NameModel
by_index s (number n) = []
by_index s (name x) = name_in s x ∷ []

-- the names of indices, in order
abbrev pub by_indices : SpaceModel → List IndexModel → List NameModel
by_indices s is = flat_map (by_index s) is

-- the name of an index, if there is one
abbrev pub by_optional : SpaceModel → Option IndexModel → List NameModel
by_optional s None = []
by_optional s (Some i) = by_index s i

-- the names of two indices, each in its space
abbrev pub by_two : SpaceModel → SpaceModel → IndexModel × IndexModel → List NameModel
by_two s t p = by_index s p.0 ++ by_index t p.1
