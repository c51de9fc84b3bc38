-- Faults without positions and notes: what contracts say of all faults of a module.
use Rattle.std.specs.Prelude.{Bool, true, false, not, List, [], ◌∷◌, ◌++◌, Option, Some, None, map}
use Rattle.wat_tokens.specs.Index.{name_of}
use Rattle.wat_scopes.specs.Known.{has_name}
use Rattle.wat_scopes.specs.Spaces.{NameModel, name_in, space_view}
use Rattle.wat_scopes.specs.declared.space.Space.{Space}
use Rattle.wat_scopes.specs.declared.fault.FaultKind.{FaultKind}
use Rattle.wat_scopes.specs.declared.fault.NameFault.{NameFault}
use Rattle.wat_scopes.specs.declared.imports.Mark.{Mark}
use Rattle.wat_tokens.specs.declared.index.Id.{Id}
use Rattle.wat_scopes.specs.declared.fault.FaultKind.TheVariants as kind
use Rattle.wat_scopes.specs.declared.imports.Mark.TheVariants as mark

-- a fault: its kind, and the name in a space that it is about, if it is about one
pub record FaultModel : Type 0 where
  pub kind : FaultKind
  pub name : Option NameModel

-- a fault that is about no name in a space
abbrev pub fault_of_kind : FaultKind → FaultModel
fault_of_kind k = record { kind = k; name = None }

-- a fault of the name n
abbrev pub fault_of_name : FaultKind → NameModel → FaultModel
fault_of_name k n = record { kind = k; name = Some n }

-- the identifier in the space, if the fault has both
abbrev pub named_view : Option Space → Option Id → Option NameModel
named_view None i = None
named_view (Some s) None = None
named_view (Some s) (Some i) = Some (name_in (space_view s) (name_of i))

abbrev pub fault_view : NameFault → FaultModel
fault_view f = record { kind = f.kind; name = named_view f.space f.id }

abbrev pub faults_view : List NameFault → List FaultModel
faults_view fs = map fault_view fs

-- ---- faults of names

-- the fault of the name n if the test is true, otherwise none
abbrev pub model_if : Bool → FaultKind → NameModel → List FaultModel
model_if true k n = fault_of_name k n ∷ []
model_if false k n = []

-- a fault for each name that equals an earlier one, in order; ms are the names before the first
abbrev pub doubled : List NameModel → List NameModel → List FaultModel
doubled ms [] = []
doubled ms (n ∷ ns) = model_if (has_name n ms) kind.DoubledName n ++ doubled (ms ++ n ∷ []) ns

-- a fault for each name that isn't one of ds, in order
abbrev pub unknown : List NameModel → List NameModel → List FaultModel
unknown ds [] = []
unknown ds (u ∷ us) = model_if (not (has_name u ds)) kind.UnknownName u ++ unknown ds us

-- ---- the order of imports

-- what a field is for the order of imports
pub data MarkModel : Type 0 where
  import_ : MarkModel
  definition : MarkModel

abbrev pub mark_view : Mark → MarkModel
mark_view (mark.Import s) = import_
mark_view (mark.Definition s) = definition

abbrev pub marks_view : List Mark → List MarkModel
marks_view ms = map mark_view ms

-- no import
abbrev pub no_imports : List MarkModel → Bool
no_imports [] = true
no_imports (import_ ∷ ms) = false
no_imports (definition ∷ ms) = no_imports ms

-- no import follows a definition
abbrev pub imports_first : List MarkModel → Bool
imports_first [] = true
imports_first (import_ ∷ ms) = imports_first ms
imports_first (definition ∷ ms) = no_imports ms

-- a fault for each import
abbrev pub each_late : List MarkModel → List FaultModel
each_late [] = []
each_late (import_ ∷ ms) = fault_of_kind kind.LateImport ∷ each_late ms
each_late (definition ∷ ms) = each_late ms

-- a fault for each import after a definition
abbrev pub late : List MarkModel → List FaultModel
late [] = []
late (import_ ∷ ms) = late ms
late (definition ∷ ms) = each_late ms
