use Rattle.std.specs.Prelude.{drop, map}
use Rattle.wat_print_instr.specs.Prelude.{instruction_view, Left, own_form}
use Rattle.wat_print_instr.proofs.folded.write_each_own.Given as goal

abbrev pub invariant-loop-instr : goal.invariant-loop-instr
invariant-loop-instr l =
    Left own_form (map instruction_view (drop l.instr-index l.instrs))
    (map instruction_view l.instrs) l.fn.out l.out
