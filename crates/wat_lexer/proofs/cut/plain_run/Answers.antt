use Rattle.std.proofs.Common.{◌+◌, ◌∙◌, ap, sym, drop, slice_range}
use Rattle.wat_lexer.specs.Prelude.{TokenTo, Annotation}
use Rattle.wat_lexer.proofs.Entries.{plain_found, annotation_found}
use Rattle.wat_lexer.proofs.FrontAt.{run_token}
use Rattle.wat_lexer.proofs.cut.plain_run.Goals as goal

pub returns-then-is_annotation_kind-clause-value : goal.returns-then-is_annotation_kind-clause-value
returns-then-is_annotation_kind-clause-value c =
    let text = c.args.text.now in
    let at = c.args.at in
    let end = c.args.end in
    let run = run_token c.args.behind at end text _ c.requires.order c.requires.within c.requires.ends in
    let (word, is) = annotation_found c.plain_kind-kind.result text at end _ (slice_range text (at + 1) end) (sym c.is_annotation_kind.ensures ∙ c.if-is_annotation_kind.true) c.plain_kind-kind.ensures.fits in
    let (same, fits, put) = c.in_ok-kind.ensures text end in
    (run ∙ ap (λ t. TokenTo t (drop end text)) (sym c.plain_kind-kind.ensures.class ∙ is ∙ ap Annotation (sym c.part.ensures) ∙ same), fits, put)

pub returns-clause-value : goal.returns-clause-value
returns-clause-value c =
    let text = c.args.text.now in
    let at = c.args.at in
    let end = c.args.end in
    let run = run_token c.args.behind at end text _ c.requires.order c.requires.within c.requires.ends in
    let (same, fits, put) = plain_found c.plain_kind-kind.result text c.args.side_table.now.items at end _ (slice_range text (at + 1) end) _ (sym c.is_annotation_kind.ensures ∙ c.if-is_annotation_kind.false) c.plain_kind-kind.ensures.fits c.plain_kind-kind.ensures.class in
    (run ∙ ap (λ t. TokenTo t (drop end text)) same, fits, put)
