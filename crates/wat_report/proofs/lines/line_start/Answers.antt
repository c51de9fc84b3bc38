use Rattle.std.proofs.Common.{arith}
use Rattle.wat_report.proofs.Cuts.{boundary_first, boundary_line}
use Rattle.wat_report.proofs.lines.line_start.Goals as goal

pub returns-else-not-begins_line-clause-boundary : goal.returns-else-not-begins_line-clause-boundary
returns-else-not-begins_line-clause-boundary c = boundary_line c.args.text.now c.loop-start.start c.utf8.text (omega arith) (grind arith)

pub returns-after-loop-start-clause-boundary : goal.returns-after-loop-start-clause-boundary
returns-after-loop-start-clause-boundary c = boundary_first _ _ c.utf8.text (omega arith)
