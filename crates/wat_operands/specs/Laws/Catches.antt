-- Laws: the catch clauses of a `try_table`.
use Rattle.std.proofs.Common.{◌≤◌, arith}
use Rattle.wat_operands.specs.CatchClause.{catch_kind, catch_clause}

pub catch_clause_consumes : 1 ≤ catch_clause.least
unfolding catch_clause catch_kind
catch_clause_consumes = omega arith
