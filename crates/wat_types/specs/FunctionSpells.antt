-- Which tokens spell a function type.
use Rattle.std.specs.Prelude.{◌≡◌, Bool, true, List, flat_map}
use Rattle.wat_tokens.specs.Prelude.{Token, Production, made_where, many}
use Rattle.wat_types.specs.Group.{Group, func_group, params_in, results_in, FunctionTypeModel, merged, InOrder, unlabelled, at_next_group}
use Rattle.wat_types.specs.Order.{in_order}
use Rattle.wat_types.specs.Laws.Group.{func_group_consumes}

-- groups, as long as the second token is `param` or `result`
unfoldable pub func_groups : Bool → Production (List Group)
func_groups labels = many at_next_group (func_group labels) (func_group_consumes labels)

-- groups, with no result group with a type before a param group; params and results are the
-- concatenations in order
abbrev pub FunctionSpells : Bool → FunctionTypeModel → List Token → List Token → Type 0
FunctionSpells labels f c r =
    (gs : List Group) × (func_groups labels).spells gs c r × InOrder gs
    × (f.params ≡ flat_map params_in gs) × (f.results ≡ flat_map results_in gs)

abbrev pub function_tested : Bool → Production FunctionTypeModel
function_tested labels = made_where in_order merged (func_groups labels)

-- a FunctionType in which no param group has a label
abbrev pub UnnamedSpells : FunctionTypeModel → List Token → List Token → Type 0
UnnamedSpells f c r = FunctionSpells true f c r × (unlabelled f.params ≡ true)
