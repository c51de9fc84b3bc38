use Rattle.std.proofs.Common.{arith, ◌≡◌, ◌∙◌, ap, drop, length}
use Rattle.wat_lexer.specs.Scan.{behind_run, Between, Ends}
use Rattle.wat_lexer.proofs.Steps.{run_char, run_over}
use Rattle.wat_lexer.proofs.cut.run.Goals.{else-plain-bytes-via-then-plain-bytes+else-bytes-plain-eq34, else-plain-bytes-via-else-plain-bytes}
use Rattle.wat_lexer.proofs.cut.run.Goals as goal

pub plain_run-requires-clause-ends : goal.plain_run-requires-clause-ends
plain_run-requires-clause-ends c =
    let text = c.args.text.now in
    let bytes = c.as_bytes-bytes.ensures.value in
    let plain = c.plain_end-plain.result in
    let stops = rw bytes at c.plain_end-plain.ensures.stops in
    let ends : behind_run Between (drop plain text) ≡ Ends (drop plain text) = elim c.else-plain-bytes.branch [
      | else-plain-bytes-via-then-plain-bytes+else-bytes-plain-eq34 w ↦ rw (run_char plain text (omega (arith, ap length bytes)) (rw bytes at w.if-bytes-plain-eq34.false), stops (omega (arith, ap length bytes)))
      | else-plain-bytes-via-else-plain-bytes w ↦ run_over plain text (omega (arith, ap length bytes))
    ] in
    rw bytes at c.plain_end-plain.ensures.run ∙ ends
