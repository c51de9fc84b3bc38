-- Laws: the types of a select.
use Rattle.std.proofs.Common.{◌≤◌, arith}
use Rattle.wat_operands.specs.ResultGroup.{result_group}

pub result_group_consumes : 1 ≤ result_group.least
result_group_consumes = omega arith
