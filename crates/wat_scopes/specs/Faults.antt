-- The kinds of faults: their numbers and names.
use Rattle.std.specs.Prelude.{ℕ, List, codes}
use Rattle.wat_scopes.specs.declared.fault.FaultKind.{FaultKind}
use Rattle.wat_scopes.specs.declared.fault.FaultKind.TheVariants.{UnknownName, DoubledName, UnknownLabel, OtherLabel, SurplusEnd, UnclosedBlock, MisplacedElse, MisplacedCatch, LateImport}

abbrev pub fault_number : FaultKind → ℕ
fault_number UnknownName = 101
fault_number DoubledName = 102
fault_number UnknownLabel = 103
fault_number OtherLabel = 104
fault_number SurplusEnd = 105
fault_number UnclosedBlock = 106
fault_number MisplacedElse = 107
fault_number MisplacedCatch = 108
fault_number LateImport = 109

-- the name of the variant
abbrev pub fault_name : FaultKind → List ℕ
fault_name UnknownName = codes "UnknownName"
fault_name DoubledName = codes "DoubledName"
fault_name UnknownLabel = codes "UnknownLabel"
fault_name OtherLabel = codes "OtherLabel"
fault_name SurplusEnd = codes "SurplusEnd"
fault_name UnclosedBlock = codes "UnclosedBlock"
fault_name MisplacedElse = codes "MisplacedElse"
fault_name MisplacedCatch = codes "MisplacedCatch"
fault_name LateImport = codes "LateImport"
