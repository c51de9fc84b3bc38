use Rattle.wat_links.proofs.CustomRows.{places, exports, sizes_of_tables}
use Rattle.wat_links.proofs.laws.custom_rows.Goals as goal

pub returns-clause-places : goal.returns-clause-places
returns-clause-places c = places

pub returns-clause-exports : goal.returns-clause-exports
returns-clause-exports c = exports

pub returns-clause-sizes : goal.returns-clause-sizes
returns-clause-sizes c = sizes_of_tables
