-- Laws: the fields of a structure.
use Rattle.std.proofs.Common.{◌≤◌, lit≤}
use Rattle.wat_tokens.specs.NameAnnotation.{name_annotation}
use Rattle.wat_types.specs.Heap.{heap_type, abstract_heap_type}
use Rattle.wat_types.specs.Reference.{ref_type, shorthand}
use Rattle.wat_types.specs.Value.{val_type}
use Rattle.wat_types.specs.Label.{label}
use Rattle.wat_types.specs.Storage.{storage_type}
use Rattle.wat_types.specs.FieldType.{field_type}
use Rattle.wat_types.specs.Struct.{plain_members, members, member_group}

pub member_group_consumes : 1 ≤ member_group.least
unfolding member_group members label name_annotation plain_members field_type storage_type val_type
    ref_type shorthand heap_type abstract_heap_type
member_group_consumes = lit≤ tt
