-- Laws: locals of functions.
use Rattle.std.proofs.Common.{◌≤◌, arith}
use Rattle.wat_fields.specs.Local.{local_group}

pub local_group_consumes : 1 ≤ local_group.least
local_group_consumes = omega arith
