use Rattle.std.proofs.Common.{◌+◌, take, arith}
use Rattle.wat_core.specs.Prelude.{field_view, fields_view}
use Rattle.wat_names.specs.Defined.{type_names, types_in, types_of}
use Rattle.wat_names.proofs.Flat.{flat_more}
use Rattle.wat_names.proofs.Numbered.{number_more, numbered_more}
use Rattle.wat_names.proofs.defined.define_all_types.Goals as goal

pub loop-field-preserved : goal.loop-field-preserved
loop-field-preserved c =
    let fields = c.args.fields.now in
    let i = c.loop-field.field-index in
    let field = c.field-item.result in
    record {
      number = number_more types_of field_view fields i field (omega arith) c.field-item.is _ _ c.loop-field.invariant.number c.in_ok-number.ensures.number;
      names = numbered_more type_names 0 c.loop-field.number (types_in (fields_view (take i fields))) (types_of (field_view field)) (types_in (fields_view (take (i + 1) fields))) (omega (arith, c.loop-field.invariant.number)) (flat_more types_of field_view fields i field (omega arith) c.field-item.is) _ _ _ c.loop-field.invariant.names c.in_ok-number.ensures.names;
    }
