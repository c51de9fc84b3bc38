use Rattle.std.specs.Prelude.{drop}
use Rattle.wat_print_module.specs.Prelude.{Left, byte_form}
use Rattle.wat_print_module.proofs.data_val.write_bytes.Given as goal

abbrev pub invariant-loop-byte : goal.invariant-loop-byte
invariant-loop-byte l = Left byte_form (drop l.byte-index l.bytes) l.bytes l.fn.out l.out
