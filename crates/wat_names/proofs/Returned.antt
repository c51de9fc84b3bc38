-- What is returned after all faults were sorted.
use Rattle.std.proofs.Common.{◌≡◌, ℕ, List, length, take, sym, ap, subst, ◌∙◌}
use Rattle.std.specs.Prelude.{IsPermutation}
use Rattle.std.proofs.lemmas.List.{take-map, length-map}
use Rattle.std.proofs.lemmas.List.Sorted.{IsPermutation-map}
use Rattle.wat_scopes.specs.FaultModels.{FaultModel, fault_view, faults_view}
use Rattle.wat_scopes.specs.declared.fault.NameFault.{NameFault}
use Rattle.wat_names.specs.Found.{Returns}
use Rattle.wat_names.specs.declared.names.NameFaults.{NameFaults}

-- the number of the faults xs, whose views are `all`
pub counted : (all : List FaultModel) (xs : List NameFault) (n : ℕ) → faults_view xs ≡ all
    → n ≡ length xs → n ≡ length all
counted all xs n e c = c ∙ sym (length-map xs fault_view) ∙ ap length e

-- ys are xs in another order
pub returned : (all : List FaultModel) (most : ℕ) (f : NameFaults) (xs ys : List NameFault)
    → faults_view xs ≡ all → IsPermutation xs ys → f.faults.items ≡ take most ys
    → f.count ≡ length xs → Returns all most f
returned all most f xs ys e p t c =
    record {
      order = faults_view ys;
      same = subst (λ zs. IsPermutation zs (faults_view ys)) e (IsPermutation-map fault_view xs ys p);
      first = ap faults_view t ∙ sym (take-map fault_view most ys);
      count = counted all xs f.count e c;
    }
