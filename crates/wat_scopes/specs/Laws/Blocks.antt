-- Laws: an expression nests exactly if it has no first fault.
use Rattle.std.proofs.Common.{◌≡◌, false, not, List, [], ◌∷◌, Option, Some, None, refl}
use Rattle.std.specs.Prelude.{is_some}
use Rattle.wat_scopes.specs.Steps.{ActModel}
use Rattle.wat_scopes.specs.Blocks.{FrameModel, step, runs, fault_of, first_fault, nests}
use Rattle.wat_scopes.specs.declared.fault.FaultKind.{FaultKind}

-- after an act that gives these blocks, if it is allowed; k is the kind of its fault
after_act : (o : Option (List FrameModel)) (k : FaultKind) (xs : List ActModel)
    → ((gs : List FrameModel) → runs gs xs ≡ not (is_some (first_fault gs xs)))
    → elim o [ None ↦ false | Some gs ↦ runs gs xs ]
    ≡ not (is_some (elim o [ None ↦ Some k | Some gs ↦ first_fault gs xs ]))
after_act None k xs h = refl
after_act (Some gs) k xs h = h gs

runs_is : (fs : List FrameModel) (xs : List ActModel)
    → runs fs xs ≡ not (is_some (first_fault fs xs))
runs_is [] [] = refl
runs_is (f ∷ fs) [] = refl
runs_is [] (x ∷ xs) = after_act (step [] x) (fault_of [] x) xs (λ gs. runs_is gs xs)
runs_is (f ∷ fs) (x ∷ xs) = after_act (step (f ∷ fs) x) (fault_of (f ∷ fs) x) xs (λ gs. runs_is gs xs)

pub nests_is : (xs : List ActModel) → nests xs ≡ not (is_some (first_fault [] xs))
nests_is xs = runs_is [] xs
