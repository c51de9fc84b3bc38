-- Function types.
use Rattle.std.specs.Prelude.{Bool, true, ◌&&◌, List, Option, map}
use Rattle.wat_tokens.specs.Prelude.{Production, restated, no_items}
use Rattle.wat_tokens.specs.declared.index.Id.{Id}
use Rattle.wat_tokens.specs.declared.name_annotation.NameAnnotation.{NameAnnotation}
use Rattle.wat_types.specs.Value.{val_view}
use Rattle.wat_types.specs.Label.{label_view}
use Rattle.wat_types.specs.Group.{ParamModel, FunctionTypeModel}
use Rattle.wat_types.specs.declared.function.FunctionType.{FunctionType}
use Rattle.wat_types.specs.declared.function.FunctionTypeNoNames.{FunctionTypeNoNames}
use Rattle.wat_types.specs.declared.value.ValType.{ValType}
use Rattle.wat_types.specs.FunctionSpells.{FunctionSpells, function_tested}
use Rattle.wat_types.specs.Laws.FunctionSpells.{function_to, function_from}

-- ---- views

abbrev pub param_view : Option Id × Option NameAnnotation × ValType → ParamModel
param_view p = record { label = label_view p.0 p.1; ty = val_view p.2 }

abbrev pub params_view : List (Option Id × Option NameAnnotation × ValType) → List ParamModel
params_view ps = map param_view ps

abbrev pub function_view : FunctionType → FunctionTypeModel
function_view f =
    record { params = params_view f.params.items; results = map val_view f.results.items }

abbrev pub unnamed_view : FunctionTypeNoNames → FunctionTypeModel
unnamed_view f = function_view f.0

-- has no parameter and no result
abbrev pub heapless_function : FunctionTypeModel → Bool
heapless_function f = no_items f.params && no_items f.results

-- ---- the grammar

unfoldable pub function_groups : Bool → Production FunctionTypeModel
function_groups labels =
    restated (function_tested labels) (FunctionSpells labels) (function_to labels)
    (function_from labels)

-- parameter and result groups; a parameter may have an identifier or a name
abbrev pub function_type : Production FunctionTypeModel
function_type = function_groups true
