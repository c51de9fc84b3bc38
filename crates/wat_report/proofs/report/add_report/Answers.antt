use Rattle.std.proofs.Common.{rules, ◌≢◌, refl, inr}
use Rattle.std.proofs.lemmas.Result.{on_ok_weaker}
use Rattle.wat_report.specs.Prelude.{Memory, IsReport, report_text}
use Rattle.wat_report.proofs.report.add_report.Goals as goal

pub returns : goal.returns
unfolding IsReport
returns c =
    let d = c.in_ok-diagnostic.diagnostic in
    let other : c.args.error.fault ≢ Memory = search rules in
    on_ok_weaker c.add_diagnostic.result (λ added. (report_text c.args.name.now d, inr (other, (d, c.in_ok-diagnostic.ensures.found, c.in_ok-diagnostic.ensures.none_expected, refl)), added)) c.add_diagnostic.ensures
