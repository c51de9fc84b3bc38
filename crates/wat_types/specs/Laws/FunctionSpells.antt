-- Laws: which tokens spell a function type.
use Rattle.std.proofs.Common.{Bool, List, flat_map, ap, sym}
use Rattle.wat_tokens.specs.Token.{Token}
use Rattle.wat_types.specs.Group.{params_in, results_in, FunctionTypeModel}
use Rattle.wat_types.specs.Laws.Order.{in_order-holds, InOrder-tested, by_parts}
use Rattle.wat_types.specs.FunctionSpells.{FunctionSpells, function_tested}

pub function_to : (labels : Bool) (f : FunctionTypeModel) (c r : List Token)
    → (function_tested labels).spells f c r → FunctionSpells labels f c r
function_to labels f c r s = (
  s.0,
  s.1,
  in_order-holds s.0 s.2,
  ap (λ (u : FunctionTypeModel). u.params) (sym s.3),
  ap
      (λ (u : FunctionTypeModel). u.results) (sym s.3),
)

pub function_from : (labels : Bool) (f : FunctionTypeModel) (c r : List Token)
    → FunctionSpells labels f c r
    → (function_tested labels).spells f c r
function_from labels f c r s = (
  s.0,
  s.1,
  InOrder-tested s.0 s.2,
  by_parts f (flat_map params_in s.0) (flat_map results_in s.0)
      s.3 s.4,
)
