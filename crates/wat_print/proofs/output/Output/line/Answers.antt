use Rattle.std.specs.Prelude.{◌*◌}
use Rattle.wat_print.specs.Laws.Written.{line_broken}
use Rattle.wat_print.proofs.output.Output.line.Goals as goal

pub returns-clause-written : goal.returns-clause-written
returns-clause-written c = (
  2 * c.min-steps.result,
  line_broken _ _ _ _ _ _ _ c.self.view_is c.if-not-self.false c.if-self.false
      c.in_ok-push_str.ensures.bytes c.in_ok-push_blanks.ensures,
)
