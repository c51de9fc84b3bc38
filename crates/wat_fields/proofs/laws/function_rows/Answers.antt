use Rattle.wat_fields.proofs.FunctionRows.{locals_of_groups, imported_global, plain_tag}
use Rattle.wat_fields.proofs.laws.function_rows.Goals as goal

pub returns-clause-locals : goal.returns-clause-locals
returns-clause-locals c = locals_of_groups

pub returns-clause-imported_global : goal.returns-clause-imported_global
returns-clause-imported_global c = imported_global

pub returns-clause-plain_tag : goal.returns-clause-plain_tag
returns-clause-plain_tag c = plain_tag
