use Rattle.std.proofs.Common.{arith, rules, sym, ◌∙◌}
use Rattle.wat_operands.proofs.Bytes.{low_byte, of_16, mapped}
use Rattle.wat_operands.proofs.vector.i8x16_bytes.Goals as goal

pub returns : goal.returns
returns c = mapped _ low_byte (λ p q x y k. search rules) _ c.args.lanes _ 16 (omega arith) c.map.ensures.items ∙ sym (of_16 c.args.lanes)
