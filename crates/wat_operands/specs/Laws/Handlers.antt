-- Laws: handler tables.
use Rattle.std.proofs.Common.{◌≤◌, arith}
use Rattle.wat_operands.specs.Handler.{handler}

pub handler_consumes : 1 ≤ handler.least
unfolding handler
handler_consumes = omega arith
