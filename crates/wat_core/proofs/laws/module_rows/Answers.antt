use Rattle.wat_core.proofs.Rows.{named, two_fields, in_binary, of_types, of_links, of_functions, of_stores, of_globals, of_segments, of_customs}
use Rattle.wat_core.proofs.laws.module_rows.Goals as goal

pub returns-clause-named : goal.returns-clause-named
returns-clause-named c = named

pub returns-clause-two_fields : goal.returns-clause-two_fields
returns-clause-two_fields c = two_fields

pub returns-clause-binary : goal.returns-clause-binary
returns-clause-binary c = in_binary

pub returns-clause-types : goal.returns-clause-types
returns-clause-types c = of_types

pub returns-clause-links : goal.returns-clause-links
returns-clause-links c = of_links

pub returns-clause-functions : goal.returns-clause-functions
returns-clause-functions c = of_functions

pub returns-clause-stores : goal.returns-clause-stores
returns-clause-stores c = of_stores

pub returns-clause-globals : goal.returns-clause-globals
returns-clause-globals c = of_globals

pub returns-clause-segments : goal.returns-clause-segments
returns-clause-segments c = of_segments

pub returns-clause-customs : goal.returns-clause-customs
returns-clause-customs c = of_customs
