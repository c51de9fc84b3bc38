use Rattle.std.proofs.Common.{arith}
use Rattle.wat_report.proofs.Cuts.{boundary_first}
use Rattle.wat_report.proofs.lines.char_start.Goals as goal

pub returns-after-loop-at-clause-boundary : goal.returns-after-loop-at-clause-boundary
returns-after-loop-at-clause-boundary c = boundary_first _ _ c.utf8.text (omega arith)
