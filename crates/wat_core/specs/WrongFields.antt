-- The results for a text's groups.
use Rattle.std.specs.Prelude.{◌≡◌, ◌≢◌, ◌≤◌, ℕ, true, List, [], ◌∷◌, length, take}
use Rattle.wat_fields.specs.Prelude.{offset_of, Error, Memory, paren, Production, TextSpells}
use Rattle.wat_core.specs.ModuleGroups.{bytes_of}
use Rattle.wat_core.specs.declared.wrong_fields.FieldFaults.{FieldFaults}
use Rattle.wat_core.specs.declared.module_group.Group.{Group}

-- the bytes spell a value in parentheses, with the five standard annotations known
abbrev pub IsField : {A : Type 0} → Production A → List ℕ → Type 0
IsField {A} g x = (v : A) × TextSpells true (paren g) x v

-- The second list has the wrong groups of the first list, in order. All other groups are good.
pub data AreWrong (Good : List ℕ → Type 0) (text : List ℕ) : List Group → List Group → Type 0 where
  none : AreWrong Good text [] []
  good : (g : Group) (gs wrong : List Group) → Good (bytes_of text g)
      → AreWrong Good text gs wrong → AreWrong Good text (g ∷ gs) wrong
  wrong : (g : Group) (gs wrong : List Group) → (Good (bytes_of text g) → ⊥)
      → AreWrong Good text gs wrong → AreWrong Good text (g ∷ gs) (g ∷ wrong)

-- a fault other than Memory, within the group or at its end
abbrev pub IsFaultOf : Group → Error → Type 0
IsFaultOf g e = (e.fault ≢ Memory) × (g.from ≤ offset_of e.span) × (offset_of e.span ≤ g.end)

-- the faults are faults of the groups, one fault for each group, in order
abbrev pub AreFaultsOf : List Group → List Error → Type 0
AreFaultsOf [] [] = Unit {0}
AreFaultsOf [] (e ∷ es) = ⊥
AreFaultsOf (g ∷ gs) [] = ⊥
AreFaultsOf (g ∷ gs) (e ∷ es) = IsFaultOf g e × AreFaultsOf gs es

-- The results for the groups: their number, the number of wrong groups, and one fault for each of
-- the first `most` wrong groups.
pub record Tells (Good : List ℕ → Type 0) (text : List ℕ) (most : ℕ) (gs : List Group)
    (f : FieldFaults) : Type 0 where
  pub wrong : List Group
  pub are_wrong : AreWrong Good text gs wrong
  pub groups : f.groups ≡ length gs
  pub count : f.count ≡ length wrong
  pub faults : AreFaultsOf (take most wrong) f.faults.items
