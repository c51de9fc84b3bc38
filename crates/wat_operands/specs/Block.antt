-- Block types.
use Rattle.std.specs.Prelude.{◌≡◌, Bool}
use Rattle.wat_types.specs.Prelude.{Production, seq, made, Label, label_view, label, FunctionTypeModel, at_func, function_view, heapless_function, TypeUseModel, use_view, heapless_use, type_use, SameFunction, SameUse, function_type_no_names}
use Rattle.wat_types.specs.declared.function.FunctionType.{FunctionType}
use Rattle.wat_types.specs.declared.type_use.TypeUse.{TypeUse}
use Rattle.wat_operands.specs.declared.block.BlockType.{BlockType}

-- ---- the type of a block or of a call

abbrev pub signature_view : TypeUse FunctionType → TypeUseModel FunctionTypeModel
signature_view u = use_view function_view u

-- has no inline type with a parameter or a result
abbrev pub heapless_signature : TypeUseModel FunctionTypeModel → Bool
heapless_signature u = heapless_use heapless_function u

-- a type use of a FunctionTypeNoNames
abbrev pub signature : Production (TypeUseModel FunctionTypeModel)
signature = type_use at_func function_type_no_names

-- ---- blocks

-- the type of a block, with its label
pub record BlockTypeModel : Type 0 where
  pub label : Label
  pub ty : TypeUseModel FunctionTypeModel

abbrev pub block_of : Label → TypeUseModel FunctionTypeModel → BlockTypeModel
block_of l t = record { label = l; ty = t }

abbrev pub block_view : BlockType → BlockTypeModel
block_view b = block_of (label_view b.label b.label_name) (signature_view b.ty)

-- has no inline type with a parameter or a result
abbrev pub heapless_block : BlockTypeModel → Bool
heapless_block b = heapless_signature b.ty

-- id? name? TypeUse of FunctionTypeNoNames
unfoldable pub block_type : Production BlockTypeModel
block_type = made (λ v. block_of v.0 v.1) (seq label signature)

-- the same label and name, and the same type
abbrev pub SameBlock : BlockType → BlockType → Type 0
SameBlock a b = (a.label ≡ b.label) × (a.label_name ≡ b.label_name) × SameUse SameFunction a.ty b.ty
