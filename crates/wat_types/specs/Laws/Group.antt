-- Laws: the groups of a function type.
use Rattle.std.proofs.Common.{◌≤◌, Bool, lit≤}
use Rattle.wat_tokens.specs.NameAnnotation.{name_annotation}
use Rattle.wat_types.specs.Heap.{heap_type, abstract_heap_type}
use Rattle.wat_types.specs.Reference.{ref_type, shorthand}
use Rattle.wat_types.specs.Value.{val_type}
use Rattle.wat_types.specs.Label.{label}
use Rattle.wat_types.specs.Group.{plain_params, params, val_types, func_group}

pub func_group_consumes : (labels : Bool) → 1 ≤ (func_group labels).least
unfolding func_group params label name_annotation plain_params val_types val_type ref_type heap_type
    abstract_heap_type shorthand
func_group_consumes labels = lit≤ tt
