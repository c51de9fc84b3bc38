-- Laws: field types.
use Rattle.std.proofs.Common.{◌≤◌, lit≤}
use Rattle.wat_types.specs.Heap.{heap_type, abstract_heap_type}
use Rattle.wat_types.specs.Reference.{ref_type, shorthand}
use Rattle.wat_types.specs.Value.{val_type}
use Rattle.wat_types.specs.Storage.{storage_type}
use Rattle.wat_types.specs.FieldType.{field_type}

pub field_type_consumes : 1 ≤ field_type.least
unfolding field_type storage_type val_type ref_type shorthand heap_type abstract_heap_type
field_type_consumes = lit≤ tt
