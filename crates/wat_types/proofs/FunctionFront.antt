-- The first tokens of a function type.
use Rattle.std.specs.Prelude.{◌≡◌, Bool, List}
use Rattle.wat_types.specs.Prelude.{Token, add_rest, empty_function, add, func_groups, function_groups}
use Rattle.wat_types.proofs.GroupsAdded.{add_groups}

pub function_begins_at : (labels : Bool) (t : List Token) → add_rest add empty_function ((func_groups labels).reads t) ≡ (function_groups labels).reads t
unfolding function_groups
function_begins_at labels t = add_groups ((func_groups labels).reads t)
