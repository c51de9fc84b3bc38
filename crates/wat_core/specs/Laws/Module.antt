-- Laws: modules.
use Rattle.std.proofs.Common.{◌≤◌, arith}
use Rattle.wat_core.specs.FieldGroup.{field_group}

pub field_group_consumes : 1 ≤ field_group.least
field_group_consumes = omega arith
