use Rattle.std.specs.Prelude.{◌≡◌, ◌++◌, take, map}
use Rattle.wat_scopes.specs.Known.{names}
use Rattle.wat_operands.specs.Catches.{catch_view}
use Rattle.wat_operand_uses.specs.Operands.{catches_uses}
use Rattle.wat_operand_uses.proofs.operands.add_catches.Given as goal

abbrev pub invariant-loop-clause : goal.invariant-loop-clause
invariant-loop-clause l = names l.out.items ≡ names l.fn.out.items ++ catches_uses (map catch_view (take l.clause-index l.clauses))
