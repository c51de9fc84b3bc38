use Rattle.std.specs.Prelude.{length}
use Rattle.wat_expr.proofs.Whole.{Reading}
use Rattle.wat_expr.proofs.expression.ExpressionParse.parse.Given as goal

abbrev pub invariant-turns : goal.invariant-turns
invariant-turns l = Reading l.fn.parser l.parser l.reader

abbrev pub decreases-turns : goal.decreases-turns
decreases-turns l = length l.parser.left
