-- Indirect calls.
use Rattle.std.specs.Prelude.{◌≡◌, Bool}
use Rattle.wat_types.specs.Prelude.{Production, seq, made, IndexModel, index_view, FunctionTypeModel, TypeUseModel, SameFunction, SameUse}
use Rattle.wat_operands.specs.Block.{signature_view, heapless_signature, signature}
use Rattle.wat_operands.specs.Tables.{index_or_0}
use Rattle.wat_operands.specs.declared.call.CallIndirect.{CallIndirect}

-- an indirect call, without positions
pub record CallIndirectModel : Type 0 where
  pub table : IndexModel
  pub ty : TypeUseModel FunctionTypeModel

abbrev pub call_of : IndexModel → TypeUseModel FunctionTypeModel → CallIndirectModel
call_of i t = record { table = i; ty = t }

abbrev pub call_view : CallIndirect → CallIndirectModel
call_view c = call_of (index_view c.table) (signature_view c.ty)

-- has no inline type with a parameter or a result
abbrev pub heapless_call : CallIndirectModel → Bool
heapless_call c = heapless_signature c.ty

-- idx? (table, default 0), TypeUse of FunctionTypeNoNames
unfoldable pub call_indirect : Production CallIndirectModel
call_indirect = made (λ v. call_of v.0 v.1) (seq index_or_0 signature)

-- the same table, and the same type
abbrev pub SameCall : CallIndirect → CallIndirect → Type 0
SameCall a b = (a.table ≡ b.table) × SameUse SameFunction a.ty b.ty
