use Rattle.std.proofs.Common.{map, rules, sym, ◌∙◌}
use Rattle.std.proofs.lemmas.Result.{on_ok_weaker}
use Rattle.wat_print_instr.specs.Prelude.{expression_view, hint_view, instruction_view}
use Rattle.wat_print_instr.proofs.FoldedWritten.{folded_written, folded_printable, seen_last, hints_none, others_unprintable, last_unprintable}
use Rattle.wat_print_instr.proofs.folded.FoldedInstructionPrintCode.write.Goals as goal

pub returns : goal.returns
returns c =
    let s = c.in-Some in
    let e = expression_view c.args.self.now.0 in
    let seen = seen_last instruction_view _ _ s.others.now s.last.now c.deref.ensures.value
    s.ensures.cases.0 in
    record {
      written = on_ok_weaker c.close.result (λ done. folded_written e
          (map instruction_view s.others.now) (instruction_view s.last.now) seen _ _ _ _ _
          c.in_ok-open.ensures.written c.in_ok-write.ensures.written
          c.in_ok-write_behind.ensures.written done c.in_ok-write_behind.ensures.printable)
          c.close.ensures.written;
      printable = on_ok_weaker c.close.result (λ done. folded_printable e
          (map instruction_view s.others.now) (instruction_view s.last.now) seen
          (hints_none hint_view _ c.deref-hints.result.now c.deref-hints.ensures.value
          (sym c.is_empty.ensures ∙ c.if-not-is_empty.false))
          c.in_ok-write.ensures.printable c.in_ok-write_behind.ensures.printable)
          c.close.ensures.written;
      refused = search rules;
    }

pub returns-in_err-write : goal.returns-in_err-write
returns-in_err-write c =
    let s = c.in-Some in
    let seen = seen_last instruction_view _ _ s.others.now s.last.now c.deref.ensures.value
    s.ensures.cases.0 in
    search (
      rules,
      last_unprintable (expression_view c.args.self.now.0) (map instruction_view s.others.now)
          (instruction_view s.last.now) seen,
      c.in_err-write.ensures.refused,
    )

pub returns-in_err-write_behind : goal.returns-in_err-write_behind
returns-in_err-write_behind c =
    let s = c.in-Some in
    let seen = seen_last instruction_view _ _ s.others.now s.last.now c.deref.ensures.value
    s.ensures.cases.0 in
    search (
      rules,
      others_unprintable (expression_view c.args.self.now.0) (map instruction_view s.others.now)
          (instruction_view s.last.now) seen,
      c.in_err-write_behind.ensures.refused,
    )
