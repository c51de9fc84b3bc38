-- A vector as a value of data.
use Rattle.std.specs.Prelude.{ℕ, List}
use Rattle.wat_expr.specs.Prelude.{Production, made, v128_const, bytes_of}

-- V128Const, as the bytes of its lanes, the lowest byte of each lane first
abbrev pub vector_as_bytes : Production (List ℕ)
vector_as_bytes = made bytes_of v128_const
