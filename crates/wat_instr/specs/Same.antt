-- When an instruction is a copy of another instruction.
use Rattle.std.specs.Prelude.{◌≡◌, true, false, Option, Some, None}
use Rattle.std.specs.Global.{Box}
use Rattle.wat_operands.specs.Block.{block_view, SameBlock}
use Rattle.wat_operands.specs.declared.block.BlockType.{BlockType}
use Rattle.wat_operands.specs.Call.{SameCall}
use Rattle.wat_operands.specs.Catches.{SameTry}
use Rattle.wat_operands.specs.Select.{SameTypes}
use Rattle.wat_instr.specs.Instruction.{Instruction, block_in}
use Rattle.wat_instr.specs.Operand.{says_something}
use Rattle.wat_instr.specs.declared.instruction.InstructionOf.TheVariants as code

-- the block types are the same; the copy has a box only if the block has a label, a name or a type
abbrev pub SameSaid : Option (Box BlockType) → Option (Box BlockType) → Type 0
SameSaid (Some x) (Some y) =
    (says_something (block_view x.value) ≡ true) × SameBlock x.value y.value
SameSaid x None = says_something (block_in x) ≡ false
SameSaid None (Some y) = ⊥

-- Every part is the same, including places. Boxes and lists have the same contents. Any other
-- instruction is equal to its copy.
abbrev pub SameInstruction : Instruction → Instruction → Type 0
SameInstruction (code.Block op x) (code.Block op' y) = (op' ≡ op) × SameSaid x y
SameInstruction (code.CallIndirect op x) (code.CallIndirect op' y) =
    (op' ≡ op) × SameCall x.value y.value
SameInstruction (code.br_table x) (code.br_table y) =
    (y.labels.items ≡ x.labels.items) × (y.default ≡ x.default)
SameInstruction (code.select x) (code.select y) = SameTypes x.tys y.tys
SameInstruction (code.br_on_cast x) (code.br_on_cast y) = y.value ≡ x.value
SameInstruction (code.br_on_cast_fail x) (code.br_on_cast_fail y) = y.value ≡ x.value
SameInstruction (code.br_on_cast_desc_eq x) (code.br_on_cast_desc_eq y) = y.value ≡ x.value
SameInstruction (code.br_on_cast_desc_eq_fail x) (code.br_on_cast_desc_eq_fail y) =
    y.value ≡ x.value
SameInstruction (code.try_table x) (code.try_table y) = SameTry x y
SameInstruction (code.resume x) (code.resume y) =
    (y.type_index ≡ x.type_index) × (y.table.handlers.items ≡ x.table.handlers.items)
SameInstruction (code.resume_throw x) (code.resume_throw y) =
    (y.value.type_index ≡ x.value.type_index) × (y.value.tag_index ≡ x.value.tag_index)
    × (y.value.table.handlers.items ≡ x.value.table.handlers.items)
SameInstruction (code.resume_throw_ref x) (code.resume_throw_ref y) =
    (y.type_index ≡ x.type_index) × (y.table.handlers.items ≡ x.table.handlers.items)
SameInstruction i j = j ≡ i
