use Rattle.std.specs.Prelude.{◌≡◌, take}
use Rattle.wat_types.proofs.structure.StructType.clone.Given as goal

abbrev pub invariant-fields : goal.invariant-fields
invariant-fields l = l.fields.items ≡ take l.field-index l.field-items
