-- Function types without names.
use Rattle.std.specs.Prelude.{false}
use Rattle.wat_tokens.specs.Prelude.{Production, restated}
use Rattle.wat_types.specs.Group.{FunctionTypeModel}
use Rattle.wat_types.specs.Function.{function_groups}
use Rattle.wat_types.specs.FunctionSpells.{UnnamedSpells}
use Rattle.wat_types.specs.Laws.Function.{unnamed_to, unnamed_from}

-- parameter and result groups; no parameter has an identifier or a name
abbrev pub function_type_no_names : Production FunctionTypeModel
function_type_no_names = restated (function_groups false) UnnamedSpells unnamed_to unnamed_from
