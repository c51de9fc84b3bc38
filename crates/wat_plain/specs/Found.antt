-- What readers return.
use Rattle.std.specs.Prelude.{◌≡◌, ◌≢◌, List, Some, None, Result, Ok, Err}
use Rattle.wat_expr.specs.Prelude.{Token, Read, InstructionModel, Items, Groups, Error, Memory}
use Rattle.wat_plain.specs.Seen.{seen, seen_groups, instr_at}
use Rattle.wat_plain.specs.declared.found.Found.{Found}
use Rattle.wat_plain.specs.declared.found.FoundGroups.{FoundGroups}
use Rattle.wat_plain.specs.declared.found.FoundInstruction.{FoundInstruction}
use Rattle.wat_plain.specs.declared.tree.FoldedGroup.{FoldedGroup}
use Rattle.wat_plain.specs.declared.found.Found.TheVariants as found
use Rattle.wat_plain.specs.declared.found.FoundGroups.TheVariants as group
use Rattle.wat_plain.specs.declared.found.FoundInstruction.TheVariants as instr

-- The items are those that are read, and `left` is the rest. Or none are read, or memory ran out.
abbrev pub Finds : Found → Read Items → List Token → Type 0
Finds (found.Items xs) read left = read ≡ Some (seen xs.now, left)
Finds found.Nothing read left = read ≡ None
Finds found.NoMemory read left = Unit {0}

-- the same of groups
abbrev pub FindsGroups : FoundGroups → Read Groups → List Token → Type 0
FindsGroups (group.Groups gs) read left = read ≡ Some (seen_groups gs.now, left)
FindsGroups group.Nothing read left = read ≡ None
FindsGroups group.NoMemory read left = Unit {0}

-- the same of an instruction
abbrev pub FindsInstruction : FoundInstruction → Read InstructionModel → List Token → Type 0
FindsInstruction (instr.Instruction i) read left = read ≡ Some (instr_at i, left)
FindsInstruction instr.Nothing read left = read ≡ None
FindsInstruction instr.NoMemory read left = Unit {0}

-- the same of a folded instruction
abbrev pub FindsFolded : Result FoldedGroup Error → Read (InstructionModel × Groups) → List Token
    → Type 0
FindsFolded (Ok f) read left =
    read ≡ Some ((instr_at f.instr, seen_groups f.groups.now), left)
FindsFolded (Err e) read left = e.fault ≢ Memory → read ≡ None
