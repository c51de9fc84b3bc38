-- The result of the check.
use Rattle.std.specs.Prelude.{◌≡◌, ℕ, List, length, take, IsPermutation}
use Rattle.wat_scopes.specs.FaultModels.{FaultModel, faults_view}
use Rattle.wat_names.specs.declared.names.NameFaults.{NameFaults}

-- Some order of all faults begins with the returned faults, which are at most `most`. All are counted.
pub record Returns (all : List FaultModel) (most : ℕ) (f : NameFaults) : Type 0 where
  pub order : List FaultModel
  pub same : IsPermutation all order
  pub first : faults_view f.faults.items ≡ take most order
  pub count : f.count ≡ length all
