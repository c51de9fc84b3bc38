-- A reference to a function, as an expression.
use Rattle.wat_expr.specs.Prelude.{Production, made, index, ExpressionModel}
use Rattle.wat_fields.specs.Payload.{ref_func_of}

-- idx, as `ref.func` of that index
unfoldable pub ref_func : Production ExpressionModel
ref_func = made ref_func_of index
