use Rattle.std.specs.Prelude.{length}
use Rattle.wat_expr.specs.Flat.{flat}
use Rattle.wat_expr.proofs.FoldedLoop.{Going}
use Rattle.wat_expr.proofs.expression.Expression.parse_folded_instruction.Given as goal

abbrev pub invariant-groups : goal.invariant-groups
invariant-groups l = Going l.fn.parser l.open_groups (flat l.out) l.parser

abbrev pub decreases-groups : goal.decreases-groups
decreases-groups l = length l.parser.left
