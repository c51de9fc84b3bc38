use Rattle.std.specs.Prelude.{◌≡◌, ◌++◌, take, flat_map}
use Rattle.wat_core.specs.Prelude.{string_bytes, fields_view}
use Rattle.wat_example.specs.Listing.{field_lines}
use Rattle.wat_example.proofs.listing.add_fields.Given as goal

abbrev pub invariant-loop-field : goal.invariant-loop-field
invariant-loop-field l = string_bytes l.out ≡ string_bytes l.fn.out ++ flat_map field_lines (fields_view (take l.field-index l.fields))
