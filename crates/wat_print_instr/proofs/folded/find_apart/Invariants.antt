use Rattle.std.specs.Prelude.{◌≡◌, [], map, take, drop}
use Rattle.wat_print_instr.specs.Prelude.{instruction_view, first_apart}
use Rattle.wat_print_instr.proofs.folded.find_apart.Given as goal

-- the remaining instructions decide the result
abbrev pub invariant-loop-k : goal.invariant-loop-k
invariant-loop-k l =
    first_apart (map instruction_view (take l.k l.instrs))
    (map instruction_view (drop l.k l.instrs))
    ≡ first_apart [] (map instruction_view l.instrs)
