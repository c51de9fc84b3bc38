use Rattle.std.proofs.Common.{◌∙◌}
use Rattle.wat_fields.proofs.Spans.{same_data_spans, offset_behind_front}
use Rattle.wat_fields.proofs.data.DataParse.parse.Goals as goal

pub returns-clause-spans : goal.returns-clause-spans
returns-clause-spans c =
    same_data_spans _ _ _ _ c.in_ok-kind.kind (offset_behind_front _ _ _ _ c.in_ok-span.ensures.reads.exact c.in_ok-id.ensures.reads.exact) (c.in_ok-id.ensures.reads.settings.1 ∙ c.in_ok-span.ensures.reads.settings.1) c.in_ok-kind.ensures.spans
