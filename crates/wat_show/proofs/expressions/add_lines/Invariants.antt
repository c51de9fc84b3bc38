use Rattle.std.specs.Prelude.{◌≡◌, ◌++◌, take, get_or, map, None}
use Rattle.wat_show.specs.Prelude.{instruction_view, lines}
use Rattle.wat_show.proofs.expressions.add_lines.Given as goal

abbrev pub invariant-loop-index : goal.invariant-loop-index
invariant-loop-index l = l.out.items ≡ l.fn.out.items ++ lines l.front (λ k. get_or l.marks k None) 0 (map instruction_view (take l.index l.instrs))
