use Rattle.wat_fields.proofs.ElementRows.{declared_func, of_externref, active_functions, table_of_nulls, elem_of_items}
use Rattle.wat_fields.proofs.laws.element_rows.Goals as goal

pub returns-clause-declared : goal.returns-clause-declared
returns-clause-declared c = declared_func

pub returns-clause-of_externref : goal.returns-clause-of_externref
returns-clause-of_externref c = of_externref

pub returns-clause-active : goal.returns-clause-active
returns-clause-active c = active_functions

pub returns-clause-of_nulls : goal.returns-clause-of_nulls
returns-clause-of_nulls c = table_of_nulls

pub returns-clause-of_items : goal.returns-clause-of_items
returns-clause-of_items c = elem_of_items
