use Rattle.std.specs.Prelude.{◌≡◌, ◌++◌, take, map, flat_map}
use Rattle.wat_core.specs.Field.{field_view}
use Rattle.wat_show.specs.Fields.{field_text}
use Rattle.wat_show.proofs.modules.add_fields.Given as goal

abbrev pub invariant-loop-field : goal.invariant-loop-field
invariant-loop-field l = l.out.items ≡ l.fn.out.items ++ flat_map field_text (map field_view (take l.field-index l.fields))
