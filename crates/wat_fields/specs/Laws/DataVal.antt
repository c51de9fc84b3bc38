-- Laws: values of data segments.
use Rattle.std.proofs.Common.{◌≤◌, arith}
use Rattle.wat_fields.specs.DataVal.{data_val}

pub data_val_consumes : 1 ≤ data_val.least
unfolding data_val
data_val_consumes = omega arith
