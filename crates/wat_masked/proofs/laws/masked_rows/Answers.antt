use Rattle.wat_masked.proofs.Rows as rows
use Rattle.wat_masked.proofs.laws.masked_rows.Goals as goal

pub returns-clause-floats : goal.returns-clause-floats
returns-clause-floats c = rows.floats

pub returns-clause-no_floats : goal.returns-clause-no_floats
returns-clause-no_floats c = rows.no_floats

pub returns-clause-constant : goal.returns-clause-constant
returns-clause-constant c = rows.constant

pub returns-clause-data : goal.returns-clause-data
returns-clause-data c = rows.data_row

pub returns-clause-row : goal.returns-clause-row
returns-clause-row c = rows.row_ends

pub returns-clause-hidden : goal.returns-clause-hidden
returns-clause-hidden c = rows.hidden

pub returns-clause-unchanged : goal.returns-clause-unchanged
returns-clause-unchanged c = rows.unchanged
