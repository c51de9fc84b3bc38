-- The memory access of an instruction.
use Rattle.std.specs.Prelude.{Option, Some, None}
use Rattle.std.specs.Borrow.{LendsIf, MutBor, Fml, RattleType}
use Rattle.wat_instr.specs.declared.instruction.InstructionOf.{InstructionOf}
use Rattle.wat_instr.specs.contracts.instruction.InstructionOf as instructions
use Rattle.wat_instr.specs.declared.instruction.InstructionOf.TheVariants as code

-- the operand of a memory access, atomic or not, or the memory access of a lane access
abbrev pub access_in : {BlockType Id Index CallIndirect MemArg SelectTypes HeapType RefTest RefCast
    BrOnCast BrOnCastFail TryTable RefCastDescEq BrOnCastDescEq BrOnCastDescEqFail : Type 0}
    → InstructionOf BlockType Id Index CallIndirect MemArg SelectTypes HeapType RefTest RefCast
    BrOnCast BrOnCastFail TryTable RefCastDescEq BrOnCastDescEq BrOnCastDescEqFail → Option MemArg
access_in (code.Access op x) = Some x
access_in (code.AtomicAccess op x) = Some x
access_in (code.RmwAccess op x) = Some x
access_in (code.LaneAccess op x) = Some x.memarg
access_in _ = None

-- the same instruction with another memory access, if it has a memory access
abbrev pub with_access : {BlockType Id Index CallIndirect MemArg SelectTypes HeapType RefTest
    RefCast BrOnCast BrOnCastFail TryTable RefCastDescEq BrOnCastDescEq BrOnCastDescEqFail : Type 0}
    → InstructionOf BlockType Id Index CallIndirect MemArg SelectTypes HeapType RefTest RefCast
    BrOnCast BrOnCastFail TryTable RefCastDescEq BrOnCastDescEq BrOnCastDescEqFail → MemArg →
    InstructionOf BlockType Id Index CallIndirect MemArg SelectTypes HeapType RefTest RefCast
    BrOnCast BrOnCastFail TryTable RefCastDescEq BrOnCastDescEq BrOnCastDescEqFail
with_access (code.Access op x) w = code.Access op w
with_access (code.AtomicAccess op x) w = code.AtomicAccess op w
with_access (code.RmwAccess op x) w = code.RmwAccess op w
with_access (code.LaneAccess op x) w = code.LaneAccess op (record x { memarg = w })
with_access i w = i

-- a write through the result replaces the memory access, and nothing else changes
abbrev pub LendsAccess : (BlockType Id Index CallIndirect MemArg SelectTypes HeapType RefTest
    RefCast BrOnCast BrOnCastFail TryTable RefCastDescEq BrOnCastDescEq BrOnCastDescEqFail :
    RattleType)
    → MutBor (InstructionOf BlockType.Denot Id.Denot Index.Denot CallIndirect.Denot MemArg.Denot
    SelectTypes.Denot HeapType.Denot RefTest.Denot RefCast.Denot BrOnCast.Denot BrOnCastFail.Denot
    TryTable.Denot RefCastDescEq.Denot BrOnCastDescEq.Denot BrOnCastDescEqFail.Denot)
    → Option (MutBor MemArg.Denot) → Fml
LendsAccess BlockType Id Index CallIndirect MemArg SelectTypes HeapType RefTest RefCast BrOnCast
    BrOnCastFail TryTable RefCastDescEq BrOnCastDescEq BrOnCastDescEqFail s r =
    LendsIf (instructions.the_row BlockType Id Index CallIndirect MemArg SelectTypes HeapType
    RefTest RefCast BrOnCast BrOnCastFail TryTable RefCastDescEq BrOnCastDescEq BrOnCastDescEqFail)
    MemArg s r (with_access s.now) s.now
