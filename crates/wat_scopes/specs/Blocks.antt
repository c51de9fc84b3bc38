-- Nested blocks: the stack of enclosing blocks in an expression (Core Specification, Text Format,
-- "Labels" and "Control Instructions").
use Rattle.std.specs.Prelude.{ℕ, Bool, true, false, ◌&&◌, ◌||◌, List, [], ◌∷◌, Option, Some, None, if◌then◌else◌}
use Rattle.wat_tokens.specs.Prelude.{bytes_eq, no_items}
use Rattle.wat_scopes.specs.Steps.{ActModel, begins, refers, else_, end_, catch_, catch_all, delegate}
use Rattle.wat_scopes.specs.declared.fault.FaultKind.{FaultKind}
use Rattle.wat_scopes.specs.declared.steps.Part.{Part}
use Rattle.wat_scopes.specs.declared.steps.Part.TheVariants as part
use Rattle.wat_scopes.specs.declared.fault.FaultKind.TheVariants as kind

-- an enclosing block: the part of it that is open, and its label
pub record FrameModel : Type 0 where
  pub part : Part
  pub label : Option (List ℕ)

abbrev pub frame_of : Part → Option (List ℕ) → FrameModel
frame_of p l = record { part = p; label = l }

-- the label is n
abbrev pub is_labelled : List ℕ → Option (List ℕ) → Bool
is_labelled n None = false
is_labelled n (Some m) = bytes_eq n m

-- one of the blocks has the label n
abbrev pub labelled : List ℕ → List FrameModel → Bool
labelled n [] = false
labelled n (f ∷ fs) = is_labelled n f.label || labelled n fs

-- a label after `else` and `end` is allowed: none, or the label of the block
abbrev pub repeats : Option (List ℕ) → Option (List ℕ) → Bool
repeats None l = true
repeats (Some n) l = is_labelled n l

-- an `else` may follow
abbrev pub allows_else : Part → Bool
allows_else part.Then = true
allows_else _ = false

-- a `catch` or `catch_all` may follow
abbrev pub allows_catch : Part → Bool
allows_catch part.Try = true
allows_catch part.Catch = true
allows_catch _ = false

-- a `delegate` may follow
abbrev pub allows_delegate : Part → Bool
allows_delegate part.Try = true
allows_delegate _ = false

-- if the test is true, the innermost block f goes on with the part p
abbrev pub goes_on : Bool → Part → FrameModel → List FrameModel → Option (List FrameModel)
goes_on b p f fs = if b then Some (frame_of p f.label ∷ fs) else None

-- if the test is true, the blocks fs are left
abbrev pub leaves : Bool → List FrameModel → Option (List FrameModel)
leaves b fs = if b then Some fs else None

-- the enclosing blocks after an act in the innermost block f, which is inside fs
abbrev pub step_in : FrameModel → List FrameModel → ActModel → Option (List FrameModel)
step_in f fs (begins p l) = Some (frame_of p l ∷ (f ∷ fs))
step_in f fs (refers n) = leaves (labelled n (f ∷ fs)) (f ∷ fs)
step_in f fs (else_ l) = goes_on (allows_else f.part && repeats l f.label) part.Otherwise f fs
step_in f fs (end_ l) = leaves (repeats l f.label) fs
step_in f fs catch_ = goes_on (allows_catch f.part) part.Catch f fs
step_in f fs catch_all = goes_on (allows_catch f.part) part.CatchAll f fs
step_in f fs delegate = leaves (allows_delegate f.part) fs

-- the enclosing blocks after an act outside all blocks: only a block can begin there
abbrev pub step_outside : ActModel → Option (List FrameModel)
step_outside (begins p l) = Some (frame_of p l ∷ [])
step_outside _ = None

-- the enclosing blocks, the innermost first, after an act; None if the act isn't allowed
abbrev pub step : List FrameModel → ActModel → Option (List FrameModel)
step [] x = step_outside x
step (f ∷ fs) x = step_in f fs x

-- the acts are allowed, one after the other, in the blocks fs, and no block is open after them
abbrev pub runs : List FrameModel → List ActModel → Bool
runs fs [] = no_items fs
runs fs (x ∷ xs) = elim (step fs x) [ None ↦ false | Some gs ↦ runs gs xs ]

-- the blocks of an expression are nested, and each label is that of an enclosing block
abbrev pub nests : List ActModel → Bool
nests xs = runs [] xs

-- the kind of the fault of an act in the innermost block f, if the act isn't allowed there
abbrev pub fault_in : FrameModel → ActModel → FaultKind
fault_in f (refers n) = kind.UnknownLabel
fault_in f (else_ l) = if allows_else f.part then kind.OtherLabel else kind.MisplacedElse
fault_in f (end_ l) = kind.OtherLabel
fault_in f _ = kind.MisplacedCatch

-- the kind of the fault of an act outside all blocks, if the act isn't allowed there
abbrev pub fault_outside : ActModel → FaultKind
fault_outside (refers n) = kind.UnknownLabel
fault_outside (else_ l) = kind.MisplacedElse
fault_outside (end_ l) = kind.SurplusEnd
fault_outside _ = kind.MisplacedCatch

-- the kind of the fault of an act, if the act isn't allowed in the blocks
abbrev pub fault_of : List FrameModel → ActModel → FaultKind
fault_of [] x = fault_outside x
fault_of (f ∷ fs) x = fault_in f x

-- the kind of the first fault of the acts in the blocks, if there is a fault
abbrev pub first_fault : List FrameModel → List ActModel → Option FaultKind
first_fault [] [] = None
first_fault (f ∷ fs) [] = Some kind.UnclosedBlock
first_fault fs (x ∷ xs) = elim (step fs x) [
  | None ↦ Some (fault_of fs x)
  | Some gs ↦ first_fault gs xs
]
