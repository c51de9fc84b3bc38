use Rattle.std.proofs.Common.{rules, ◌≡◌, None}
use Rattle.wat_report.specs.Prelude.{offset_of, char_start}
use Rattle.wat_report.specs.Front.{uncut}
use Rattle.wat_report.proofs.AtChar.{at_char}
use Rattle.wat_report.proofs.diagnostic.diagnostic_of.Goals as goal

pub returns : goal.returns
returns c =
    let at = c.char_start-at.result in
    let place : at ≡ char_start c.args.text.now (offset_of c.args.error.span) = search rules in
    record {
      found = at_char c.args.text.now (offset_of c.args.error.span) at c.args.error.fault None c.diagnostic_at.result place (uncut c.args.text.now at (c.in-Err.ensures.none c.in_default.not-Memory)) c.diagnostic_at.ensures.placed;
      none_expected = c.diagnostic_at.ensures.none_expected;
    }
