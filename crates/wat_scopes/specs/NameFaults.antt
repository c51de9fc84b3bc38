-- The faults of names that are defined and used.
use Rattle.std.specs.Prelude.{Bool, true, false, not, List, [], ◌∷◌, ◌++◌, Some}
use Rattle.wat_tokens.specs.Index.{span_of}
use Rattle.wat_scopes.specs.Spaces.{NameModel, name_view}
use Rattle.wat_scopes.specs.Known.{has_name}
use Rattle.wat_scopes.specs.declared.space.Name.{Name}
use Rattle.wat_scopes.specs.declared.fault.FaultKind.{FaultKind}
use Rattle.wat_scopes.specs.declared.fault.FaultKind.TheVariants.{DoubledName, UnknownName}
use Rattle.wat_scopes.specs.declared.fault.NameFault.{NameFault}
use Rattle.wat_scopes.specs.declared.fault.Note.TheVariants.{Nothing}

-- the fault of a name, at its position
abbrev pub name_fault : FaultKind → Name → NameFault
name_fault k n = record {
  kind = k;
  space = Some n.space;
  id = Some n.id;
  span = span_of n.id;
  note = Nothing;
}

-- the fault of a name if the test is true, otherwise none
abbrev pub fault_if : Bool → FaultKind → Name → List NameFault
fault_if true k n = name_fault k n ∷ []
fault_if false k n = []

-- a fault for each name that equals an earlier one, in order; ms are the names before the first
abbrev pub doubled_faults : List NameModel → List Name → List NameFault
doubled_faults ms [] = []
doubled_faults ms (n ∷ ns) =
    fault_if (has_name (name_view n) ms) DoubledName n ++ doubled_faults (ms ++ name_view n ∷ []) ns

-- a fault for each name that isn't one of ds, in order
abbrev pub unknown_faults : List NameModel → List Name → List NameFault
unknown_faults ds [] = []
unknown_faults ds (u ∷ us) =
    fault_if (not (has_name (name_view u) ds)) UnknownName u ++ unknown_faults ds us
