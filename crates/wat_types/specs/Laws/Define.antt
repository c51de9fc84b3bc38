-- Laws: types in a recursion group.
use Rattle.std.proofs.Common.{◌≤◌, arith}
use Rattle.wat_types.specs.Define.{grouped_type}

pub grouped_type_consumes : 1 ≤ grouped_type.least
grouped_type_consumes = omega arith
