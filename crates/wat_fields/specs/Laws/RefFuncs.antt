-- Laws: indices that are read as expressions of one `ref.func` each.
use Rattle.std.proofs.Common.{◌≤◌, lit≤}
use Rattle.wat_fields.specs.RefFunc.{ref_func}

pub ref_func_consumes : 1 ≤ ref_func.least
unfolding ref_func
ref_func_consumes = lit≤ tt
