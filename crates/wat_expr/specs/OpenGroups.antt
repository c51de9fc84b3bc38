-- The open groups of an expression, the innermost group first.
use Rattle.std.specs.Prelude.{◌≡◌, ℕ, suc, List, [], ◌∷◌, length, Option, Some, None, Bool, true, false}
use Rattle.wat_instr.specs.Instruction.{InstructionModel}
use Rattle.wat_expr.specs.declared.open_groups.Mark.{Mark}
use Rattle.wat_expr.specs.declared.open_groups.Kind.{Kind}
use Rattle.wat_expr.specs.declared.open_groups.Kind.TheVariants as kind

-- a folded group, and an `if` before its `( then`, hold their instruction and its hint
pub data OpenGroup : Type 0 where
  InFolded : InstructionModel → Option ℕ → OpenGroup
  InBlock : OpenGroup
  InIf : InstructionModel → Option ℕ → OpenGroup
  AfterThen : OpenGroup
  AfterElse : OpenGroup
  InArm : OpenGroup

-- the number of open groups that hold an instruction
abbrev pub heads_in : List OpenGroup → ℕ
heads_in [] = 0
heads_in (InFolded i h ∷ s) = suc (heads_in s)
heads_in (InIf i h ∷ s) = suc (heads_in s)
heads_in (InBlock ∷ s) = heads_in s
heads_in (AfterThen ∷ s) = heads_in s
heads_in (AfterElse ∷ s) = heads_in s
heads_in (InArm ∷ s) = heads_in s

-- ---- the open groups as they are stored: kinds, instructions and marks

-- the number of kinds that hold an instruction
abbrev pub waiting : List Kind → ℕ
waiting [] = 0
waiting (kind.Folded ∷ ks) = suc (waiting ks)
waiting (kind.If ∷ ks) = suc (waiting ks)
waiting (kind.Block ∷ ks) = waiting ks
waiting (kind.AfterThen ∷ ks) = waiting ks
waiting (kind.AfterElse ∷ ks) = waiting ks
waiting (kind.Arm ∷ ks) = waiting ks

-- the open groups with these kinds, instructions and marks, in order
abbrev pub open_groups : List Kind → List InstructionModel → List Mark → List OpenGroup
open_groups (kind.Folded ∷ ks) (i ∷ is) (m ∷ ms) = InFolded i m.hint ∷ open_groups ks is ms
open_groups (kind.If ∷ ks) (i ∷ is) (m ∷ ms) = InIf i m.hint ∷ open_groups ks is ms
open_groups (kind.Block ∷ ks) is ms = InBlock ∷ open_groups ks is ms
open_groups (kind.AfterThen ∷ ks) is ms = AfterThen ∷ open_groups ks is ms
open_groups (kind.AfterElse ∷ ks) is ms = AfterElse ∷ open_groups ks is ms
open_groups (kind.Arm ∷ ks) is ms = InArm ∷ open_groups ks is ms
open_groups _ is ms = []

-- the number of instructions fits the kinds, and each instruction has a mark
abbrev pub EachHolds : List Kind → List InstructionModel → List Mark → Type 0
EachHolds ks is ms = (waiting ks ≡ length is) × (length ms ≡ length is)

-- the kind of an open group
abbrev pub kind_of : OpenGroup → Kind
kind_of (InFolded i h) = kind.Folded
kind_of InBlock = kind.Block
kind_of (InIf i h) = kind.If
kind_of AfterThen = kind.AfterThen
kind_of AfterElse = kind.AfterElse
kind_of InArm = kind.Arm

-- the kind of a group that holds its instruction: If if the instruction is `if`, otherwise Folded
abbrev pub holder : Bool → Kind
holder true = kind.If
holder false = kind.Folded

-- the innermost open group has this kind; with None, no group is open
abbrev pub TopIs : Option Kind → List OpenGroup → Type 0
TopIs None s = s ≡ []
TopIs (Some kind.Folded) s =
    (i : InstructionModel) × (h : Option ℕ) × (q : List OpenGroup) × (s ≡ InFolded i h ∷ q)
TopIs (Some kind.If) s = (i : InstructionModel) × (h : Option ℕ) × (q : List OpenGroup)
    × (s ≡ InIf i h ∷ q)
TopIs (Some kind.Block) s = (q : List OpenGroup) × (s ≡ InBlock ∷ q)
TopIs (Some kind.AfterThen) s = (q : List OpenGroup) × (s ≡ AfterThen ∷ q)
TopIs (Some kind.AfterElse) s = (q : List OpenGroup) × (s ≡ AfterElse ∷ q)
TopIs (Some kind.Arm) s = (q : List OpenGroup) × (s ≡ InArm ∷ q)
