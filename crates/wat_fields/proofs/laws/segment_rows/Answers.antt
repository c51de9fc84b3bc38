use Rattle.wat_fields.proofs.SegmentRows.{inline_memory_of_text, shared_memory, passive_data, head_of_data_last}
use Rattle.wat_fields.proofs.laws.segment_rows.Goals as goal

pub returns-clause-inline_memory : goal.returns-clause-inline_memory
returns-clause-inline_memory c = inline_memory_of_text

pub returns-clause-shared_memory : goal.returns-clause-shared_memory
returns-clause-shared_memory c = shared_memory

pub returns-clause-passive_data : goal.returns-clause-passive_data
returns-clause-passive_data c = passive_data

pub returns-clause-head_last : goal.returns-clause-head_last
returns-clause-head_last c = head_of_data_last
