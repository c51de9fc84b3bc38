-- The notices of a check.
use Rattle.std.specs.Prelude.{◌≡◌, ◌≢◌, ◌⊎◌, ◌↔◌, ◌++◌, ◌∷◌, ◌-◌, ◌==◌, ◌||◌, ℕ, Bool, true, false, List, [], length, Option, Some, None, if◌then◌else◌}
use Rattle.wat_report.specs.Prelude.{IsDiagnostic, IsFirstWrongByte}
use Rattle.wat_report.specs.NameDiagnostic.{IsNameDiagnostic}
use Rattle.wat_print_module.specs.Prelude.{list_any, option_to_list, IsUtf8, FirstFault, IsCut, Error, Fault, Memory, module_field, offset_of, ModuleModel, SpellsModule, Placed, FieldFaults}
use Rattle.wat_core.specs.Error.{Operator, Unexpected}
use Rattle.wat_core.specs.WrongFields.{IsField, Tells}
use Rattle.wat_core.specs.ModuleGroups.{HasGroups}
use Rattle.wat_core.specs.ModuleHead.{IsUnexpected}
use Rattle.wat_core.specs.declared.module_group.Group.{Group}
use Rattle.wat_report.specs.declared.diagnostic.Diagnostic.{Diagnostic}
use Rattle.wat_answers.specs.declared.notice.Notice.{Notice}
use Rattle.wat_answers.specs.declared.notice.Notice.TheVariants.{Found, More, Further}
use Rattle.wat_answers.specs.declared.task.Extent.{Extent}
use Rattle.wat_answers.specs.declared.task.Extent.TheVariants.{Syntax, Names}
use Rattle.wat_scopes.specs.Known as known
use Rattle.wat_scopes.specs.declared.fault.NameFault.{NameFault}
use Rattle.wat_scopes.specs.declared.space.Name.{Name}
use Rattle.wat_names.specs.Names.{WellNamed, faults_in, names_in}
use Rattle.wat_names.specs.Found.{Returns}
use Rattle.wat_names.specs.declared.names.NameFaults.{NameFaults}
use Rattle.wat_masked.specs.Text.{IsMasked}

-- ---- the errors that are reported

-- one of the errors is at the offset
abbrev pub has_error_at : List Error → ℕ → Bool
has_error_at es offset = list_any (λ e. offset_of e.span == offset) es

-- the error for which the text isn't a module, unless an error of a field is at its offset
abbrev pub lead_of : Error → List Error → Option Error
lead_of first es = if has_error_at es (offset_of first.span) then None else Some first

-- the error after the fields, unless another reported error is at its offset
abbrev pub beside_of : Error → List Error → Option Error → Option Error
beside_of first es None = None
beside_of first es (Some e) =
    if (offset_of first.span == offset_of e.span) || has_error_at es (offset_of e.span) then None
    else Some e

-- ---- their diagnostics

-- the faults for which another token could be valid
abbrev pub may_expect : Fault → Bool
may_expect Unexpected = true
may_expect Operator = true
may_expect _ = false

-- A diagnostic may list expected tokens only if the fault is Unexpected or Operator and there is no hint.
-- The clause doesn't describe the listed tokens.
unfoldable pub MayExpect : Fault → Diagnostic → Type 0
MayExpect f d =
    (d.expected.items ≡ []) ⊎ ((d.hint.items ≡ []) × (may_expect f ≡ true))

-- the diagnostic of an error, with the expected tokens
abbrev pub IsDiagnosticOf : List ℕ → Error → Diagnostic → Type 0
IsDiagnosticOf text e d = IsDiagnostic text (offset_of e.span) e.fault d × MayExpect e.fault d

-- the diagnostics of errors, one after the other; `Is` relates an error to its diagnostic
pub data Diagnosed {E : Type 0} (Is : E → Diagnostic → Type 0) : List E → List Notice → Type 0 where
  none : Diagnosed Is [] []
  more : (es : List E) (e : E) (ns : List Notice) (d : Diagnostic) → Diagnosed Is es ns → Is e d
      → Diagnosed Is (es ++ e ∷ []) (ns ++ Found d ∷ [])

-- the diagnostic of an error was added
abbrev pub AddsFound : {E : Type 0} → (E → Diagnostic → Type 0) → E → List Notice → List Notice → Type 0
AddsFound Is e old new = (d : Diagnostic) × Is e d × (new ≡ old ++ Found d ∷ [])

-- the diagnostics of errors were added
abbrev pub AddsDiagnosed : {E : Type 0} → (E → Diagnostic → Type 0) → List E → List Notice → List Notice
    → Type 0
AddsDiagnosed Is es old new = (ns : List Notice) × Diagnosed Is es ns × (new ≡ old ++ ns)

-- the number of further invalid fields, if it isn't 0
abbrev pub more_notices : ℕ → List Notice
more_notices n = if n == 0 then [] else More n ∷ []

-- The notices, in order: the error for which the text isn't a module, the errors of its fields, the
-- number of further invalid fields, and the error after the fields.
unfoldable pub AreNotices : List ℕ → Error → FieldFaults → List Notice → Type 0
AreNotices text first f ns =
    (lead : List Notice) × (fields : List Notice) × (beside : List Notice)
    × Diagnosed (IsDiagnosticOf text) (option_to_list (lead_of first f.faults.items)) lead
    × Diagnosed (IsDiagnosticOf text) f.faults.items fields
    × Diagnosed (IsDiagnosticOf text) (option_to_list (beside_of first f.faults.items f.beside)) beside
    × (ns ≡ lead ++ (fields ++ (more_notices (f.count - length f.faults.items) ++ beside)))

-- ---- names, blocks and imports

-- the number of further errors, if it isn't 0
abbrev pub further_notices : ℕ → List Notice
further_notices n = if n == 0 then [] else Further n ∷ []

-- the diagnostic of a fault of a module that defines these names
abbrev pub IsNamed : List ℕ → List Name → NameFault → Diagnostic → Type 0
IsNamed text defined f d = IsNameDiagnostic text f defined d

-- the diagnostics of the faults, and then the number of further faults
abbrev pub AreNamed : List ℕ → NameFaults → List Notice → Type 0
AreNamed text f ns =
    (ds : List Notice) × Diagnosed (IsNamed text f.names.items) f.faults.items ds
    × (ns ≡ ds ++ further_notices (f.count - length f.faults.items))

-- What the check of names finds in a module: there is no fault exactly if the module is well named; up
-- to `most` of its faults, and their number; the names that the module defines.
pub record FindsNames (m : ModuleModel) (most : ℕ) (f : NameFaults) : Type 0 where
  pub exact : (f.count ≡ 0) ↔ WellNamed m
  pub faults : Returns (faults_in m) most f
  pub defined : known.names f.names.items ≡ names_in m

-- status 0 if there is no fault, else 1
abbrev pub status_of : ℕ → ℕ
status_of count = if count == 0 then 0 else 1

-- the notices for the names, blocks and imports of a module
abbrev pub ChecksNames : List ℕ → ModuleModel → List Notice → ℕ → Type 0
ChecksNames text m ns status =
    (f : NameFaults) × FindsNames m 20 f × AreNamed text f ns × (status ≡ status_of f.count)

-- a module, by the extent of the check: of the grammar alone there is nothing more to check
unfoldable pub ChecksModule : Extent → List ℕ → ModuleModel → List Notice → ℕ → Type 0
ChecksModule Syntax text m ns status = (ns ≡ []) × (status ≡ 0)
ChecksModule Names text m ns status = ChecksNames text m ns status

-- ---- the whole check

-- the errors of the fields of the text that is read: one error for each of the first 20 invalid fields,
-- and the number of all invalid fields
abbrev pub AreFaults : List ℕ → FieldFaults → Type 0
AreFaults read f =
    (ts : List Placed) × (gs : List Group) × (beside : Option ℕ) × IsCut read ts
    × HasGroups (length read) ts gs beside × Tells (IsField module_field) read 20 gs f
    × IsUnexpected f.beside beside

abbrev pub FindsFaults : List ℕ → List ℕ → Error → List Notice → Type 0
FindsFaults text read first ns = (f : FieldFaults) × AreFaults read f × AreNotices text first f ns

-- the check of the module if the masked text is one; status 1 and the notices of its errors if it
-- isn't a module
unfoldable pub ChecksMasked : Extent → List ℕ → List ℕ → List Notice → ℕ → Type 0
ChecksMasked extent text read ns status =
    ((m : ModuleModel) × SpellsModule read m × ChecksModule extent text m ns status)
    ⊎ (((m : ModuleModel) → SpellsModule read m → ⊥)
    × ((first : Error) × (first.fault ≢ Memory) × FindsFaults text read first ns) × (status ≡ 1))

-- the text has no cut; the notice is its first fault, with status 1
abbrev pub FindsUncut : List ℕ → List Notice → ℕ → Type 0
FindsUncut text ns status =
    ((ts : List Placed) → IsCut text ts → ⊥)
    × ((f : Fault) × (offset : ℕ) × (d : Diagnostic) × (f ≢ Memory) × FirstFault text f offset
    × IsDiagnostic text offset f d × (d.expected.items ≡ []) × (ns ≡ Found d ∷ []))
    × (status ≡ 1)

-- the check of a text reads its masked text, which has integers in place of float literals
unfoldable pub ChecksText : Extent → List ℕ → List Notice → ℕ → Type 0
ChecksText extent text ns status =
    ((read : List ℕ) × IsMasked text read × ChecksMasked extent text read ns status)
    ⊎ FindsUncut text ns status

-- the check of bytes: for bytes that are UTF-8, the check of their text; for other bytes, the first wrong
-- byte, with status 1
unfoldable pub ChecksBytes : Extent → List ℕ → List Notice → ℕ → Type 0
ChecksBytes extent bytes ns status =
    (IsUtf8 bytes × ChecksText extent bytes ns status)
    ⊎ (((d : Diagnostic) × IsFirstWrongByte bytes d × (ns ≡ Found d ∷ [])) × (status ≡ 1))
