use Rattle.std.proofs.Common.{flat_map, arith, rules, ap, ◌∙◌}
use Rattle.std.specs.Int.{w32, cast_unsigned, to_le_bytes}
use Rattle.wat_operands.proofs.Again.{four_items}
use Rattle.wat_operands.proofs.Bytes.{mapped}
use Rattle.wat_operands.proofs.vector.i32x4_bytes.Goals as goal

pub returns : goal.returns
returns c =
    c.bytes_of_4.ensures ∙ ap (flat_map (to_le_bytes w32)) (four_items c.map.result 0 0 0 0 c.map.ensures.items.long ∙ mapped _ (cast_unsigned w32) (λ p q x y k. search rules) _ c.args.lanes _ 4 (omega arith) c.map.ensures.items)
