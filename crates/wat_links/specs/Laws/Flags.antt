-- Laws: one flag of a symbol.
use Rattle.std.proofs.Common.{◌≤◌, lit≤}
use Rattle.wat_links.specs.FlagBits.{flag_bits}

pub flag_bits_consumes : 1 ≤ flag_bits.least
unfolding flag_bits
flag_bits_consumes = lit≤ tt
