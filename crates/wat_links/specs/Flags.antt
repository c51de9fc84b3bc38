-- Flags of symbols in the `dylink.0` section.
use Rattle.std.specs.Prelude.{ℕ, List, fold}
use Rattle.wat_types.specs.Prelude.{bit_or, Production, made, many, at_more}
use Rattle.wat_links.specs.FlagBits.{flag_bits}
use Rattle.wat_links.specs.Laws.Flags.{flag_bits_consumes}

-- ( u32 | keyword of a flag )*, to the end of the group
unfoldable pub flag_list : Production (List ℕ)
flag_list = many at_more flag_bits flag_bits_consumes

-- the bits of all flags, joined by bitwise or
unfoldable pub symbol_flags : Production ℕ
symbol_flags = made (λ ns. fold bit_or 0 ns) flag_list
