use Rattle.std.specs.Prelude.{◌≡◌, ◌++◌, replicate, string_bytes}
use Rattle.wat_format.proofs.gap.put_lines.Given as goal

abbrev pub invariant-turns : goal.invariant-turns
invariant-turns l = string_bytes l.out ≡ string_bytes l.fn.out ++ replicate l.counter 10
