-- The effect of the end of a group.
use Rattle.std.specs.Prelude.{◌≡◌, List, [], ◌∷◌, ◌++◌, Result, Ok, Err, MatchResult}
use Rattle.wat_instr.specs.Prelude.{Error, Memory, Instruction, instruction_view}
use Rattle.wat_expr.specs.Flat.{Flat, push}
use Rattle.wat_expr.specs.OpenGroups.{OpenGroup, InFolded, InIf, kind_of}
use Rattle.wat_expr.specs.declared.open_groups.Kind.{Kind}
use Rattle.wat_expr.specs.declared.open_groups.Mark.{Mark}

-- if an instruction waits in the group, it is appended to the output
abbrev pub released : OpenGroup → Flat → Flat
released (InFolded i h) f = push h i f
released (InIf i h) f = push h i f
released _ f = f

-- With Ok, the innermost group was removed, the result is its kind, and its waiting instruction was
-- appended to the output. The only error is Memory.
abbrev pub Pops : Result Kind Error → List OpenGroup → List OpenGroup → Flat → Flat → Type 0
Pops (Ok k) s t f g = (l : OpenGroup) × (s ≡ l ∷ t) × (kind_of l ≡ k) × (g ≡ released l f)
Pops (Err e) s t f g = e.fault ≡ Memory

-- The last waiting instruction and its mark were removed. With Ok, the instruction was appended to
-- the output. The only error is Memory.
abbrev pub Releases : {X : Type 0} → Result X Error → List Instruction → List Instruction
    → List Mark → List Mark → Flat → Flat → Type 0
Releases r is js ms ns f g =
    (i : Instruction) × (m : Mark) × (is ≡ js ++ i ∷ []) × (ms ≡ ns ++ m ∷ [])
    × MatchResult r (λ _. g ≡ push m.hint (instruction_view i) f) (λ e. e.fault ≡ Memory)
