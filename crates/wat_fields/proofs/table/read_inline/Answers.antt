use Rattle.std.proofs.Common.{◌∙◌}
use Rattle.wat_fields.proofs.Spans.{same_listed_spans, items_behind_type}
use Rattle.wat_fields.proofs.table.read_inline.Goals as goal

pub returns-clause-spans : goal.returns-clause-spans
returns-clause-spans c =
    same_listed_spans _ _ _ _ c.in_ok-payload.payload (items_behind_type _ _ _ _ _ _ _ _ _ _ _ c.flag-shared.ensures.reads.exact c.in_ok-is64.ensures.reads.exact c.in_ok-elem.ensures.reads.exact c.in_ok-open.ensures.reads.exact c.in_ok-keyword.ensures.reads.exact) (c.in_ok-keyword.ensures.reads.settings.1 ∙ c.in_ok-open.ensures.reads.settings.1 ∙ c.in_ok-elem.ensures.reads.settings.1 ∙ c.in_ok-is64.ensures.reads.settings.1 ∙ c.flag-shared.ensures.reads.settings.1) c.in_ok-payload.ensures.spans
