use Rattle.std.proofs.Common.{◌∙◌, sym}
use Rattle.wat_instr.specs.Instruction.{instruction_view}
use Rattle.wat_print_instr.proofs.FoldedWritten.{catch_seen}
use Rattle.wat_print_instr.proofs.folded.catch_first.Goals as goal

pub returns : goal.returns
returns c =
    c.is_taken.ensures
    ∙ catch_seen instruction_view (instruction_view c.args.last.now) c.args.instrs.now
    c.index-instrs-0.result (sym c.is_empty.ensures ∙ c.if-is_empty.false) c.index-instrs-0.is
