-- One turn over groups.
use Rattle.std.specs.Prelude.{◌≡◌, ◌≢◌, ◌⊎◌, ℕ, Option, None, List, ◌∷◌, Result, Ok, Err}
use Rattle.wat_instr.specs.Prelude.{Token, LParen, RParen, Error, Memory, InstructionModel}
use Rattle.wat_expr.specs.Items.{reads}
use Rattle.wat_expr.specs.Flat.{Flat, push}
use Rattle.wat_expr.specs.OpenGroups.{OpenGroup, InFolded}

-- the open groups, the tokens that are left, and the output
pub record GroupState : Type 0 where
  pub open_groups : List OpenGroup
  pub left : List Token
  pub out : Flat

abbrev pub group_state : List OpenGroup → List Token → Flat → GroupState
group_state s ts f = record { open_groups = s; left = ts; out = f }

-- a group opens, and its instruction waits
abbrev pub Opens : GroupState → GroupState → Type 0
Opens s t =
    (i : InstructionModel) × (a : List Token) × (s.left ≡ LParen ∷ a) × reads i a t.left
    × (t.open_groups ≡ InFolded i None ∷ s.open_groups) × (t.out ≡ s.out)

-- the innermost group closes, and its instruction is appended to the output
abbrev pub Closes : GroupState → GroupState → Type 0
Closes s t =
    (i : InstructionModel) × (h : Option ℕ) × (s.open_groups ≡ InFolded i h ∷ t.open_groups)
    × (s.left ≡ RParen ∷ t.left)
    × (t.out ≡ push h i s.out)

-- no group can open, and no group can close
pub record IsHalted (s : GroupState) : Type 0 where
  pub opens : (i : InstructionModel) (a b : List Token) → s.left ≡ LParen ∷ a → reads i a b → ⊥
  pub closes : (i : InstructionModel) (h : Option ℕ) (q : List OpenGroup) (d : List Token)
      → s.open_groups ≡ InFolded i h ∷ q → s.left ≡ RParen ∷ d → ⊥

-- With Ok, a group opened or closed. With an error other than Memory, no group can open or close.
abbrev pub GroupTurn : {A : Type 0} → Result A Error → GroupState → GroupState → Type 0
GroupTurn (Ok x) s t = Opens s t ⊎ Closes s t
GroupTurn (Err e) s t = e.fault ≢ Memory → IsHalted s

-- With Ok, a group opened after its `(`. With an error other than Memory, ts begins with no
-- instruction.
abbrev pub OpensBehind : {A : Type 0} → Result A Error → List OpenGroup → List OpenGroup
    → List Token → List Token → Type 0
OpensBehind (Ok x) s t ts r = (i : InstructionModel) × reads i ts r × (t ≡ InFolded i None ∷ s)
OpensBehind (Err e) s t ts r =
    e.fault ≢ Memory → (i : InstructionModel) (m : List Token) → reads i ts m → ⊥
