use Rattle.wat_expr.proofs.Rows.{operands_first, both_arms, hint_behind_operand, block_in_fold, hint_behind_block}
use Rattle.wat_expr.proofs.laws.expression_rows.Goals as goal

pub returns-clause-operands_first : goal.returns-clause-operands_first
returns-clause-operands_first c = operands_first

pub returns-clause-both_arms : goal.returns-clause-both_arms
returns-clause-both_arms c = both_arms

pub returns-clause-hint_behind_operand : goal.returns-clause-hint_behind_operand
returns-clause-hint_behind_operand c = hint_behind_operand

pub returns-clause-block_in_fold : goal.returns-clause-block_in_fold
returns-clause-block_in_fold c = block_in_fold

pub returns-clause-hint_behind_block : goal.returns-clause-hint_behind_block
returns-clause-hint_behind_block c = hint_behind_block
