-- The names that operands use, apart from labels, in the order of the text (Core Specification, Text
-- Format, "Instructions").
use Rattle.std.specs.Prelude.{List, [], ◌++◌, Option, Some, None, flat_map}
use Rattle.wat_types.specs.Value.{ValTypeModel}
use Rattle.wat_tokens.specs.Index.{IndexModel}
use Rattle.wat_operands.specs.Block.{BlockTypeModel}
use Rattle.wat_operands.specs.Call.{CallIndirectModel}
use Rattle.wat_operands.specs.Casts.{CastBranchModel}
use Rattle.wat_operands.specs.CatchClause.{CatchModel}
use Rattle.wat_operands.specs.Catches.{TryTableModel}
use Rattle.wat_operands.specs.Handler.{HandleModel, on_label, on_switch}
use Rattle.wat_operands.specs.Memory.{MemArgModel, MemArgTargetModel, memory, array}
use Rattle.wat_operands.specs.declared.catches.CatchKind.{CatchKind}
use Rattle.wat_operands.specs.declared.catches.CatchKind.TheVariants.{Catch, CatchRef, CatchAll, CatchAllRef}
use Rattle.wat_scopes.specs.Spaces.{NameModel, types, tables, memories, tags}
use Rattle.wat_type_uses.specs.Named.{by_index}
use Rattle.wat_type_uses.specs.Types.{ref_uses, vals_uses, type_use_uses}

-- the target of a memory access: a memory, or an array type
abbrev pub target_uses : MemArgTargetModel → List NameModel
target_uses (memory i) = by_index memories i
target_uses (array i) = by_index types i

-- a memory access
abbrev pub access_uses : MemArgModel → List NameModel
access_uses m = target_uses m.target

-- a block type: its type use
abbrev pub block_uses : BlockTypeModel → List NameModel
block_uses b = type_use_uses b.ty

-- an indirect call: its table, then its type use
abbrev pub call_uses : CallIndirectModel → List NameModel
call_uses c = by_index tables c.table ++ type_use_uses c.ty

-- the types of a `select`, if it has types
abbrev pub chosen_uses : Option (List ValTypeModel) → List NameModel
chosen_uses None = []
chosen_uses (Some ts) = vals_uses ts

-- the two types of a branch on a cast
abbrev pub cast_uses : CastBranchModel → List NameModel
cast_uses c = ref_uses c.from_type ++ ref_uses c.to_type

-- the tag of a clause of a `try_table`, if it has one
abbrev pub catch_kind_uses : CatchKind IndexModel → List NameModel
catch_kind_uses (Catch i) = by_index tags i
catch_kind_uses (CatchRef i) = by_index tags i
catch_kind_uses CatchAll = []
catch_kind_uses CatchAllRef = []

abbrev pub catch_uses : CatchModel → List NameModel
catch_uses c = catch_kind_uses c.kind

-- the tags of the clauses of a `try_table`, in order
abbrev pub catches_uses : List CatchModel → List NameModel
catches_uses cs = flat_map catch_uses cs

-- a `try_table`: its block type, then the tags of its clauses
abbrev pub try_uses : TryTableModel → List NameModel
try_uses t = block_uses t.block ++ catches_uses t.catches

-- the tag of a handler of a `resume`
abbrev pub handle_uses : HandleModel → List NameModel
handle_uses (on_label tag label) = by_index tags tag
handle_uses (on_switch tag) = by_index tags tag

-- the tags of handlers, in order
abbrev pub handles_uses : List HandleModel → List NameModel
handles_uses hs = flat_map handle_uses hs
