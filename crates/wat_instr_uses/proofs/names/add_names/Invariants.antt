use Rattle.std.specs.Prelude.{◌≡◌, ◌++◌, take, map}
use Rattle.wat_scopes.specs.Known.{names}
use Rattle.wat_instr.specs.Prelude.{instruction_view}
use Rattle.wat_instr_uses.specs.Names.{instrs_uses}
use Rattle.wat_instr_uses.proofs.names.add_names.Given as goal

abbrev pub invariant-loop-instr : goal.invariant-loop-instr
invariant-loop-instr l = names l.out.items ≡ names l.fn.out.items ++ instrs_uses l.local (map instruction_view (take l.instr-index l.instrs))
