use Rattle.std.specs.Prelude.{◌≡◌, drop}
use Rattle.wat_print.specs.Prelude.{is_idchar, all_are}
use Rattle.wat_print.proofs.output.are_idchars.Given as goal

-- the bytes left decide the result
abbrev pub invariant-loop-b : goal.invariant-loop-b
invariant-loop-b l = all_are is_idchar (drop l.b-index l.bytes) ≡ all_are is_idchar l.bytes
