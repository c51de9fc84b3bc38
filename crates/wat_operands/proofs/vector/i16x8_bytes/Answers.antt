use Rattle.std.proofs.Common.{flat_map, arith, rules, ap, ◌∙◌}
use Rattle.std.specs.Int.{w16, cast_unsigned, to_le_bytes}
use Rattle.wat_operands.proofs.Bytes.{halves, mapped}
use Rattle.wat_operands.proofs.vector.i16x8_bytes.Goals as goal

pub returns : goal.returns
returns c =
    halves (to_le_bytes w16) c.map.result _ _ _ c.map.ensures.items.long c.bytes_of_half.ensures c.bytes_of_half-2.ensures c.join_8.ensures
    ∙ ap (flat_map (to_le_bytes w16)) (mapped _ (cast_unsigned w16) (λ p q x y k. search rules) _ c.args.lanes _ 8 (omega arith) c.map.ensures.items)
