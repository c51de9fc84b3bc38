use Rattle.std.specs.Prelude.{drop, map}
use Rattle.wat_print_instr.specs.Prelude.{Left, text_form}
use Rattle.wat_print_module.proofs.dylink.write_strings.Given as goal

abbrev pub invariant-loop-name : goal.invariant-loop-name
invariant-loop-name l =
    Left text_form (map (λ n. n.now) (drop l.name-index l.names))
    (map (λ n. n.now) l.names) l.fn.out l.out
