-- A test of the order of groups, and the addition of groups one by one.
use Rattle.std.specs.Prelude.{Bool, true, false, if◌then◌else◌, List, [], ◌∷◌, ◌++◌, Option, Some, None}
use Rattle.wat_tokens.specs.Views.{no_items}
use Rattle.wat_types.specs.Group.{Group, param, result, FunctionTypeModel, function_of}

-- no group is a param group
abbrev pub only_results : List Group → Bool
only_results [] = true
only_results (param ps ∷ gs) = false
only_results (result rs ∷ gs) = only_results gs

abbrev pub in_order : List Group → Bool
in_order [] = true
in_order (param ps ∷ gs) = in_order gs
in_order (result [] ∷ gs) = in_order gs
in_order (result (t ∷ ts) ∷ gs) = only_results gs

-- ---- groups added one by one

-- adds one more group; None for a param group if there are results
abbrev pub add : FunctionTypeModel → Group → Option FunctionTypeModel
add f (param ps) =
    if no_items f.results then Some (function_of (f.params ++ ps) f.results) else None
add f (result rs) = Some (function_of f.params (f.results ++ rs))
