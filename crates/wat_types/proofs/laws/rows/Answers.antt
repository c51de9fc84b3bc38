use Rattle.wat_types.proofs.Rows.{page_sizes, globals, long_limits, final_sub, open_sub, structure, described_type, uses}
use Rattle.wat_types.proofs.laws.rows.Goals as goal

pub returns-clause-page_sizes : goal.returns-clause-page_sizes
returns-clause-page_sizes c = page_sizes

pub returns-clause-globals : goal.returns-clause-globals
returns-clause-globals c = globals

pub returns-clause-long_limits : goal.returns-clause-long_limits
returns-clause-long_limits c = long_limits

pub returns-clause-final_sub : goal.returns-clause-final_sub
returns-clause-final_sub c = final_sub

pub returns-clause-open_sub : goal.returns-clause-open_sub
returns-clause-open_sub c = open_sub

pub returns-clause-structure : goal.returns-clause-structure
returns-clause-structure c = structure

pub returns-clause-described : goal.returns-clause-described
returns-clause-described c = described_type

pub returns-clause-uses : goal.returns-clause-uses
returns-clause-uses c = uses
