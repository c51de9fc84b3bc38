use Rattle.std.proofs.Common.{arith}
use Rattle.wat_core.specs.Prelude.{field_view}
use Rattle.wat_names.specs.Defined.{type_aliases, types_of}
use Rattle.wat_names.proofs.Flat.{flat_item}
use Rattle.wat_names.proofs.defined.alias_all.Goals as goal

pub loop-field-preserved : goal.loop-field-preserved
loop-field-preserved c =
    flat_item type_aliases types_of field_view c.args.fields.now c.loop-field.field-index c.field-item.result (omega arith) c.field-item.is _ _ _ c.loop-field.invariant c.in_ok-alias_field.ensures
