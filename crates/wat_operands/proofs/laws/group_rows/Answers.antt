use Rattle.wat_operands.proofs.GroupRows.{catches, handlers, selects}
use Rattle.wat_operands.proofs.laws.group_rows.Goals as goal

pub returns-clause-catches : goal.returns-clause-catches
returns-clause-catches c = catches

pub returns-clause-handlers : goal.returns-clause-handlers
returns-clause-handlers c = handlers

pub returns-clause-selects : goal.returns-clause-selects
returns-clause-selects c = selects
