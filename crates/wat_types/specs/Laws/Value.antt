-- Laws: value types.
use Rattle.std.proofs.Common.{◌≤◌, lit≤}
use Rattle.wat_types.specs.Heap.{heap_type, abstract_heap_type}
use Rattle.wat_types.specs.Reference.{ref_type, shorthand}
use Rattle.wat_types.specs.Value.{val_type}

pub val_type_consumes : 1 ≤ val_type.least
unfolding val_type ref_type shorthand heap_type abstract_heap_type
val_type_consumes = lit≤ tt
