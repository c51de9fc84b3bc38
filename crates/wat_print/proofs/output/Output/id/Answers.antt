use Rattle.std.proofs.Common.{sym, ◌∙◌}
use Rattle.wat_print.specs.Laws.Fitting.{name_printable}
use Rattle.wat_print.proofs.output.Output.id.Goals as goal

pub returns-clause-printable : goal.returns-clause-printable
returns-clause-printable c =
    name_printable c.args.name.now c.utf8.name (sym c.is_empty.ensures ∙ c.if-is_empty.false)
