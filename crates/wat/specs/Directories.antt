-- Which files of a directory are inputs.
use Rattle.std.specs.Prelude.{ℕ, Bool, ◌||◌, List, String, codes, nat_eq, string_bytes}
use Rattle.std.specs.List.{ends_with, list_all}
use Rattle.wat.specs.declared.directory.Wanted.{Wanted}
use Rattle.wat.specs.declared.directory.Wanted.TheVariants.{Wat, WatAndWast}

-- the path ends in `.wat`, or in `.wast` too if that is wanted
abbrev pub is_wanted : Wanted → List ℕ → Bool
is_wanted Wat path = ends_with nat_eq path (codes ".wat")
is_wanted WatAndWast path =
    ends_with nat_eq path (codes ".wat") || ends_with nat_eq path (codes ".wast")

abbrev pub are_wanted : {Z : Type 0} → Wanted → List (String Z) → Bool
are_wanted wanted paths = list_all (λ path. is_wanted wanted (string_bytes path)) paths
