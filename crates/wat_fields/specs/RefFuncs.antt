-- Indices that are read as expressions of one `ref.func` each. Only contracts of private functions
-- use these definitions.
use Rattle.std.specs.Prelude.{List}
use Rattle.wat_expr.specs.Prelude.{Production, made, many, at_more, RefTypeModel, ExpressionModel}
use Rattle.wat_fields.specs.Payload.{ElemPayloadModel, indices, exprs, by_index, of_type, index_list}
use Rattle.wat_fields.specs.RefFunc.{ref_func}
use Rattle.wat_fields.specs.Laws.RefFuncs.{ref_func_consumes}

-- idx*, to the end, each as `ref.func` of that index
unfoldable pub ref_funcs : Production (List ExpressionModel)
ref_funcs = many at_more ref_func ref_func_consumes

-- indices, to the end, as a payload of the type
unfoldable pub indices_of : RefTypeModel → Production ElemPayloadModel
indices_of ty = made (of_type ty) (made by_index index_list)

-- the same, for the type `funcref`
unfoldable pub plain_indices : Production ElemPayloadModel
plain_indices = made indices index_list

-- the same, for another type
unfoldable pub ref_funcs_of : RefTypeModel → Production ElemPayloadModel
ref_funcs_of ty = made (λ v. exprs ty v) ref_funcs
