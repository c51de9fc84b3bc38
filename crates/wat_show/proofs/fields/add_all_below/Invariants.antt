use Rattle.std.specs.Prelude.{◌≡◌, ◌++◌, take, map}
use Rattle.wat_expr.specs.Expression.{expression_view}
use Rattle.wat_show.specs.Fields.{all_below}
use Rattle.wat_show.proofs.fields.add_all_below.Given as goal

abbrev pub invariant-loop-expression : goal.invariant-loop-expression
invariant-loop-expression l = l.out.items ≡ l.fn.out.items ++ all_below (map expression_view (take l.expression-index l.expressions))
