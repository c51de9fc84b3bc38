use Rattle.std.specs.Prelude.{◌≡◌, ◌++◌, take, [], map}
use Rattle.wat_show.specs.Prelude.{instruction_view, lines, hint_at}
use Rattle.wat_show.proofs.expressions.add_plain_lines.Given as goal

abbrev pub invariant-loop-instr : goal.invariant-loop-instr
invariant-loop-instr l = l.out.items ≡ l.fn.out.items ++ lines l.front (hint_at []) 0 (map instruction_view (take l.instr-index l.instrs))
