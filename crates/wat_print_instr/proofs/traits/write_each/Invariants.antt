use Rattle.std.specs.Prelude.{drop, map}
use Rattle.wat_print_instr.specs.Prelude.{Left, exactly}
use Rattle.wat_print_instr.proofs.traits.write_each.Given as goal

abbrev pub invariant-loop-value : goal.invariant-loop-value
invariant-loop-value g l =
    Left (exactly g.T.PrintCode.printing)
    (map g.T.PrintCode.view (drop l.value-index l.values)) (map g.T.PrintCode.view l.values)
    l.fn.out l.out
