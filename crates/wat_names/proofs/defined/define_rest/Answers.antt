use Rattle.std.proofs.Common.{arith}
use Rattle.wat_core.specs.Prelude.{field_view}
use Rattle.wat_names.specs.Defined.{field_names}
use Rattle.wat_names.proofs.Numbered.{numbered_item}
use Rattle.wat_names.proofs.defined.define_rest.Goals as goal

pub loop-at-preserved : goal.loop-at-preserved
loop-at-preserved c =
    numbered_item field_names field_view c.args.fields.now c.loop-at.at c.index-fields-at.result (omega arith) c.index-fields-at.is 0 c.loop-at.at (omega arith) _ _ _ c.loop-at.invariant c.in_ok-define_field.ensures
