-- A group of results.
use Rattle.std.specs.Prelude.{List, codes}
use Rattle.wat_types.specs.Prelude.{Production, group, val_types, ValTypeModel}

-- ( result ValType* )
abbrev pub result_group : Production (List ValTypeModel)
result_group = group (codes "result") val_types
