use Rattle.std.specs.Prelude.{map}
use Rattle.wat_print_instr.specs.Prelude.{hint_view, instruction_view}
use Rattle.wat_print_instr.proofs.Walked.{Walked}
use Rattle.wat_print_instr.proofs.expression.write_steps.Given as goal

abbrev pub invariant-loop-index : goal.invariant-loop-index
invariant-loop-index l =
    Walked (map instruction_view l.instrs) (map hint_view l.hints) l.index
    (map hint_view l.left) l.fn.out l.out
