use Rattle.std.proofs.Common.{◌∙◌}
use Rattle.wat_fields.proofs.Spans.{same_offset_spans, offset_behind_memory}
use Rattle.wat_fields.proofs.data.read_active.Goals as goal

pub returns-clause-spans : goal.returns-clause-spans
returns-clause-spans c =
    same_offset_spans _ _ _ _ c.in_ok-offset.offset (offset_behind_memory _ _ _ _ _ c.in_ok-memory.ensures.reads.exact c.in_ok-open.ensures.reads.exact) (c.in_ok-open.ensures.reads.settings.1 ∙ c.in_ok-memory.ensures.reads.settings.1) c.in_ok-offset.ensures.spans
