use Rattle.std.proofs.Common.{rules, ◌≡◌, Some}
use Rattle.wat_report.specs.Prelude.{placed, offset_of, HasGroups, char_start}
use Rattle.wat_report.specs.Front.{cut}
use Rattle.wat_report.proofs.AtChar.{at_char}
use Rattle.wat_report.proofs.diagnostic.diagnostic_in.Goals as goal

pub returns-clause-found : goal.returns-clause-found
returns-clause-found c =
    let at = c.char_start-at.result in
    let place : at ≡ char_start c.args.text.now (offset_of c.args.error.span) = search rules in
    let has : HasGroups c.args.text.now at (Some c.groups_before-groups.result) = rw c.groups_before-groups.ensures (cut c.args.text.now at (placed c.args.tokens.now) c.requires) in
    at_char c.args.text.now (offset_of c.args.error.span) at c.args.error.fault (Some c.groups_before-groups.result) c.diagnostic_at.result place has c.diagnostic_at.ensures.placed
