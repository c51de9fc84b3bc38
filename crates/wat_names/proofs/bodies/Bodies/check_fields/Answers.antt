use Rattle.std.proofs.Common.{arith}
use Rattle.wat_core.specs.Prelude.{field_view}
use Rattle.wat_names.specs.Bodies.{body_uses, expression_faults, field_expressions}
use Rattle.wat_names.proofs.Flat.{flat_item}
use Rattle.wat_names.proofs.Numbered.{numbered_item}
use Rattle.wat_names.proofs.bodies.Bodies.check_fields.Goals as goal

pub loop-at-preserved : goal.loop-at-preserved
loop-at-preserved c = record {
  faults = flat_item expression_faults field_expressions field_view c.args.fields.now c.loop-at.at c.index-fields-at.result (omega arith) c.index-fields-at.is _ _ _ c.loop-at.invariant.faults c.in_ok-check_field.ensures.faults;
  used = numbered_item body_uses field_view c.args.fields.now c.loop-at.at c.index-fields-at.result (omega arith) c.index-fields-at.is 0 c.loop-at.at (omega arith) _ _ _ c.loop-at.invariant.used c.in_ok-check_field.ensures.used;
}
