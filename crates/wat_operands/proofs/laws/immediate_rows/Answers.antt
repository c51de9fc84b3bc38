use Rattle.wat_operands.proofs.ImmediateRows.{accesses, atomic_accesses, lane_accesses, table_inits, table_copies, vector, ordered_table}
use Rattle.wat_operands.proofs.laws.immediate_rows.Goals as goal

pub returns-clause-accesses : goal.returns-clause-accesses
returns-clause-accesses c = accesses

pub returns-clause-atomic_accesses : goal.returns-clause-atomic_accesses
returns-clause-atomic_accesses c = atomic_accesses

pub returns-clause-lane_accesses : goal.returns-clause-lane_accesses
returns-clause-lane_accesses c = lane_accesses

pub returns-clause-table_inits : goal.returns-clause-table_inits
returns-clause-table_inits c = table_inits

pub returns-clause-table_copies : goal.returns-clause-table_copies
returns-clause-table_copies c = table_copies

pub returns-clause-vector : goal.returns-clause-vector
returns-clause-vector c = vector

pub returns-clause-ordered_table : goal.returns-clause-ordered_table
returns-clause-ordered_table c = ordered_table
