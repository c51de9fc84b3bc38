-- The groups of a function type, and their order.
use Rattle.std.specs.Prelude.{AllPairs, Bool, true, not, ◌&&◌, ◌||◌, List, [], ◌∷◌, codes, flat_map, ⊤}
use Rattle.wat_tokens.specs.Prelude.{Token, begins_word, Production, seq, made, where_else, many, group, Test, either_test, at_group, at_more, second_word, run}
use Rattle.wat_tokens.specs.Test.{if_test}
use Rattle.wat_types.specs.Value.{ValTypeModel, val_type}
use Rattle.wat_types.specs.Label.{Label, no_label, labelled, label, at_label}
use Rattle.wat_types.specs.Laws.Value.{val_type_consumes}

-- a parameter with its label
pub record ParamModel : Type 0 where
  pub label : Label
  pub ty : ValTypeModel

abbrev pub labelled_param : Label × ValTypeModel → List ParamModel
labelled_param v = record { label = v.0; ty = v.1 } ∷ []

abbrev pub plain_param : ValTypeModel → ParamModel
plain_param t = record { label = no_label; ty = t }

abbrev pub plain_param_only : Production ParamModel
plain_param_only = made plain_param val_type

-- ValType*
unfoldable pub plain_params : Production (List ParamModel)
plain_params = many at_more plain_param_only val_type_consumes

-- id? name? ValType if labels are allowed and a label begins; else ValType*
unfoldable pub params : Bool → Production (List ParamModel)
params labels =
    where_else (if_test labels at_label) (made labelled_param (seq label val_type))
    plain_params

-- ValType*
unfoldable pub val_types : Production (List ValTypeModel)
val_types = many at_more val_type val_type_consumes

pub data Group : Type 0 where
  param : List ParamModel → Group
  result : List ValTypeModel → Group

-- ( param ) | ( param id? name? ValType ), with an id or a name | ( param ValType* ) | ( result
-- ValType* )
unfoldable pub func_group : Bool → Production Group
func_group labels =
    where_else (at_group (codes "param")) (made param (group (codes "param") (params labels)))
    (made result (group (codes "result") val_types))

-- `param` or `result`
abbrev pub begins_group_word : List Token → Bool
begins_group_word t = begins_word (codes "param") t || begins_word (codes "result") t

-- one more group has to follow: the second token is `param` or `result`, for any first token
abbrev pub at_next_group : Test
at_next_group = either_test (second_word (codes "param")) (second_word (codes "result"))

abbrev pub group_follows : List Token → Bool
group_follows t = run at_next_group t

-- a function type begins: `(` and `param` or `result`
abbrev pub at_func : Test
at_func = either_test (at_group (codes "param")) (at_group (codes "result"))

abbrev pub begins_func : List Token → Bool
begins_func t = run at_func t

-- no parameter has a label
abbrev pub unlabelled : List ParamModel → Bool
unlabelled [] = true
unlabelled (p ∷ ps) = not (labelled p.label) && unlabelled ps

-- ---- all groups together

-- a function type, without positions
pub record FunctionTypeModel : Type 0 where
  pub params : List ParamModel
  pub results : List ValTypeModel

abbrev pub function_of : List ParamModel → List ValTypeModel → FunctionTypeModel
function_of ps rs = record { params = ps; results = rs }

abbrev pub empty_function : FunctionTypeModel
empty_function = function_of [] []

abbrev pub params_in : Group → List ParamModel
params_in (param ps) = ps
params_in (result rs) = []

abbrev pub results_in : Group → List ValTypeModel
results_in (param ps) = []
results_in (result rs) = rs

-- the parameters and the results of all groups, concatenated in order
abbrev pub merged : List Group → FunctionTypeModel
merged gs = function_of (flat_map params_in gs) (flat_map results_in gs)

-- a result group with a type can't come before a param group
abbrev pub MayStandBefore : Group → Group → Type 0
MayStandBefore (result (t ∷ ts)) (param ps) = ⊥
MayStandBefore _ _ = ⊤

-- of any two groups, the earlier may come before the later
abbrev pub InOrder : List Group → Type 0
InOrder gs = AllPairs MayStandBefore gs
