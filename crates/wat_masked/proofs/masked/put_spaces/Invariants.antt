use Rattle.std.specs.Prelude.{◌≡◌, ◌++◌, replicate, string_bytes}
use Rattle.wat_masked.proofs.masked.put_spaces.Given as goal

abbrev pub invariant-turns : goal.invariant-turns
invariant-turns l = string_bytes l.out ≡ string_bytes l.fn.out ++ replicate l.counter 32
