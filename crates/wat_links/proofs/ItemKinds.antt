-- If an exact type use isn't heapless, the function kind with this type use isn't heapless either.
use Rattle.std.specs.Prelude.{Bool, true, false, Some, None}
use Rattle.wat_links.specs.Prelude.{NotHeapless, Read, bind, FunctionTypeModel, TypeUseModel, func_kind_of}
use Rattle.wat_links.specs.Item.{heapless_exact_use, heapless_item_kind}

pub kind_not_heapless : (x : Read (TypeUseModel FunctionTypeModel × Bool)) → NotHeapless heapless_exact_use x → NotHeapless heapless_item_kind (bind x (λ v r. Some (func_kind_of v, r)))
kind_not_heapless (Some ((u, true), r)) k = k
kind_not_heapless (Some ((u, false), r)) k = k
kind_not_heapless None k = tt
