use Rattle.std.proofs.Common.{◌∙◌, ap, ◌++◌, List, ℕ}
use Rattle.wat_show.proofs.Lines.{instruction_added}
use Rattle.wat_show.proofs.expressions.add_instruction.Goals as goal

pub returns : goal.returns
returns c = instruction_added c.add_operand.result c.args.instr.now c.args.out.now.items c.add.new.out.items c.add_operand.new.out.items (c.in_ok-add.ensures ∙ ap (λ (l : List ℕ). c.args.out.now.items ++ l) c.mnemonic.ensures) c.add_operand.ensures
