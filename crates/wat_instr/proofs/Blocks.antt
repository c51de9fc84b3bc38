-- Blocks without a label, name or type.
use Rattle.std.specs.Prelude.{◌≡◌, ◌||◌, ℕ, Bool, List, Option, Some, None, true, false, refl, not, is_some}
use Rattle.wat_operands.specs.Prelude.{IndexModel, FunctionTypeModel, label_of, labelled, use_of, heapless_use, heapless_function, BlockTypeModel, block_of}
use Rattle.wat_operands.specs.Block.{heapless_block}
use Rattle.wat_instr.specs.Instruction.{no_block}
use Rattle.wat_instr.specs.Operand.{says_something}

pub nothing_said : (i n : Option (List ℕ)) (x : Option IndexModel) (t : Option FunctionTypeModel) → says_something (block_of (label_of i n) (use_of x t)) ≡ false → no_block ≡ block_of (label_of i n) (use_of x t)
nothing_said None None None None e = refl
nothing_said None None None (Some t) e = absurd cc
nothing_said None None (Some x) t e = absurd cc
nothing_said None (Some n) x t e = absurd cc
nothing_said (Some i) n x t e = absurd cc

with_type : (l : Bool) (x : Option IndexModel) (t : Option FunctionTypeModel) → heapless_use heapless_function (use_of x t) ≡ false → not (l || (is_some x || is_some t)) ≡ false
with_type true x t e = refl
with_type false (Some x) t e = refl
with_type false None (Some t) e = refl
with_type false None None e = absurd cc

-- a block that owns memory has a label, a name or a type
pub not_heapless : (b : BlockTypeModel) → heapless_block b ≡ false → not (says_something b) ≡ false
not_heapless b e = with_type (labelled b.label) b.ty.index b.ty.inline e
