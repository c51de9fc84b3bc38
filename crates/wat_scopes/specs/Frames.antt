-- The enclosing blocks as the code has them: a list with the innermost last, and a set of labels.
use Rattle.std.specs.Prelude.{◌≡◌, Bool, false, not, ◌||◌, List, [], ◌∷◌, Option, Some, None}
use Rattle.std.specs.HashSet.{contains}
use Rattle.wat_tokens.specs.Prelude.{bytes_eq, name_of, option_view}
use Rattle.wat_scopes.specs.Steps.{ActModel}
use Rattle.wat_scopes.specs.Blocks.{FrameModel, frame_of, is_labelled, labelled, step, fault_of}
use Rattle.wat_scopes.specs.declared.blocks.Blocks.{Blocks}
use Rattle.wat_scopes.specs.declared.blocks.Frame.{Frame}
use Rattle.wat_scopes.specs.declared.blocks.BlockFault.{BlockFault}
use Rattle.wat_tokens.specs.declared.index.Id.{Id}

abbrev pub frame_view : Frame → FrameModel
frame_view f = frame_of f.part (option_view name_of f.label)

-- the blocks of the frames, each inside the frame before it, the first inside fs
abbrev pub inside : List Frame → List FrameModel → List FrameModel
inside [] fs = fs
inside (g ∷ gs) fs = inside gs (frame_view g ∷ fs)

-- the enclosing blocks, the innermost first
abbrev pub stack : Blocks → List FrameModel
stack b = inside b.frames.items []

abbrev pub same_id : Id → Id → Bool
same_id i j = bytes_eq (name_of i) (name_of j)

-- there is a label, and none of the blocks has it
abbrev pub is_first : Option Id → List FrameModel → Bool
is_first None fs = false
is_first (Some i) fs = not (labelled (name_of i) fs)

-- each frame says whether it is the outermost with its label
abbrev pub AreFirsts : List FrameModel → List Frame → Type 0
AreFirsts fs [] = Unit {0}
AreFirsts fs (g ∷ gs) = (g.first ≡ is_first g.label fs) × AreFirsts (frame_view g ∷ fs) gs

-- the set has the labels of the blocks
abbrev pub HasLabels : Blocks → List FrameModel → Type 0
HasLabels b fs = (q : Id) → contains same_id b.labels q ≡ labelled (name_of q) fs

-- the set of labels and the frames agree
pub record IsKept (b : Blocks) : Type 0 where
  pub firsts : AreFirsts [] b.frames.items
  pub labels : HasLabels b (stack b)

-- the same with one more block, the innermost: the set has its label l, but its frame isn't in the
-- list. is_new says whether it is the only block with the label.
pub record IsKeptBut (l : Option Id) (is_new : Bool) (b : Blocks) : Type 0 where
  pub firsts : AreFirsts [] b.frames.items
  pub first : is_new ≡ is_first l (stack b)
  pub labels : (q : Id) → contains same_id b.labels q
      ≡ (is_labelled (name_of q) (option_view name_of l) || labelled (name_of q) (stack b))

-- the innermost block was removed, if there is one
abbrev pub PopsFrame : Blocks → Option Frame → Blocks → Type 0
PopsFrame a None b = stack a ≡ []
PopsFrame a (Some f) b = (stack a ≡ frame_view f ∷ stack b) × IsKeptBut f.label f.first b

-- the act was done, or it isn't allowed and w is its fault
abbrev pub Takes : Blocks → ActModel → Option BlockFault → Blocks → Type 0
Takes a x None b = (step (stack a) x ≡ Some (stack b)) × IsKept b
Takes a x (Some w) b = (step (stack a) x ≡ None) × (w.kind ≡ fault_of (stack a) x)
