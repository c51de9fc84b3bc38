-- Laws: numbers of data segments, as their bytes.
use Rattle.std.proofs.Common.{◌≤◌, lit≤}
use Rattle.wat_operands.specs.Vector.{two, four, eight, sixteen, float_const, wide_const, v128_const}
use Rattle.wat_fields.specs.VectorBytes.{vector_as_bytes}

pub vector_consumes : 1 ≤ vector_as_bytes.least
unfolding v128_const wide_const float_const two four eight sixteen
vector_consumes = lit≤ tt
