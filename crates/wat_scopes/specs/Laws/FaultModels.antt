-- Laws: the faults of lists as models, and when there is none.
use Rattle.std.proofs.Common.{◌≡◌, Bool, true, false, not, ◌&&◌, ◌||◌, List, [], ◌∷◌, ◌++◌, refl, sym, ap, ◌∙◌, map}
use Rattle.std.proofs.Math.Bool.{and_assoc, or-false}
use Rattle.std.proofs.lemmas.List.{map-append}
use Rattle.wat_tokens.specs.Prelude.{no_items}
use Rattle.wat_scopes.specs.Spaces.{NameModel, name_view, same_name}
use Rattle.wat_scopes.specs.Known.{has_name, names, distinct, all_known}
use Rattle.wat_scopes.specs.FaultModels.{fault_of_kind, fault_view, faults_view, model_if, doubled, unknown, MarkModel, import_, definition, mark_view, marks_view, no_imports, imports_first, each_late, late}
use Rattle.wat_scopes.specs.Laws.Known.{has_name-append, same_name_sym}
use Rattle.wat_scopes.specs.Imports.{import_faults, late_imports}
use Rattle.wat_scopes.specs.NameFaults.{fault_if, doubled_faults, unknown_faults}
use Rattle.wat_scopes.specs.declared.space.Name.{Name}
use Rattle.wat_scopes.specs.declared.fault.FaultKind.{FaultKind}
use Rattle.wat_scopes.specs.declared.fault.NameFault.{NameFault}
use Rattle.wat_scopes.specs.declared.fault.Note.{Note}
use Rattle.wat_scopes.specs.declared.fault.Note.TheVariants.{First}
use Rattle.wat_scopes.specs.declared.imports.Mark.{Mark}
use Rattle.wat_scopes.specs.declared.imports.Mark.TheVariants.{Import, Definition}
use Rattle.wat_scopes.specs.declared.fault.FaultKind.TheVariants as kind

-- ---- views of faults

if_view : (b : Bool) (k : FaultKind) (n : Name)
    → faults_view (fault_if b k n) ≡ model_if b k (name_view n)
if_view true k n = refl
if_view false k n = refl

pub doubled_view : (ms : List NameModel) (ns : List Name)
    → faults_view (doubled_faults ms ns) ≡ doubled ms (names ns)
doubled_view ms [] = refl
doubled_view ms (n ∷ ns) =
    map-append fault_view (fault_if (has_name (name_view n) ms) kind.DoubledName n) (doubled_faults (ms ++ name_view n ∷ []) ns)
    ∙ ap (λ fs. fs ++ faults_view (doubled_faults (ms ++ name_view n ∷ []) ns)) (if_view (has_name (name_view n) ms) kind.DoubledName n)
    ∙ ap (λ fs. model_if (has_name (name_view n) ms) kind.DoubledName (name_view n) ++ fs) (doubled_view (ms ++ name_view n ∷ []) ns)

pub unknown_view : (ds : List NameModel) (us : List Name)
    → faults_view (unknown_faults ds us) ≡ unknown ds (names us)
unknown_view ds [] = refl
unknown_view ds (u ∷ us) =
    map-append fault_view (fault_if (not (has_name (name_view u) ds)) kind.UnknownName u) (unknown_faults ds us)
    ∙ ap (λ fs. fs ++ faults_view (unknown_faults ds us)) (if_view (not (has_name (name_view u) ds)) kind.UnknownName u)
    ∙ ap (λ fs. model_if (not (has_name (name_view u) ds)) kind.UnknownName (name_view u) ++ fs) (unknown_view ds us)

each_late_view : (n : Note) (ms : List Mark)
    → faults_view (import_faults n ms) ≡ each_late (marks_view ms)
each_late_view n [] = refl
each_late_view n (Import s ∷ ms) = ap (λ fs. fault_of_kind kind.LateImport ∷ fs) (each_late_view n ms)
each_late_view n (Definition s ∷ ms) = each_late_view n ms

pub late_view : (ms : List Mark) → faults_view (late_imports ms) ≡ late (marks_view ms)
late_view [] = refl
late_view (Import s ∷ ms) = late_view ms
late_view (Definition s ∷ ms) = each_late_view (First s) ms

-- ---- no fault

pub none-append : {A : Type 0} (xs ys : List A) → no_items (xs ++ ys) ≡ (no_items xs && no_items ys)
none-append [] ys = refl
none-append (x ∷ xs) ys = refl

each_late_none : (ms : List MarkModel) → no_items (each_late ms) ≡ no_imports ms
each_late_none [] = refl
each_late_none (import_ ∷ ms) = refl
each_late_none (definition ∷ ms) = each_late_none ms

-- no import is late exactly if no import follows a definition
pub late_none : (ms : List MarkModel) → no_items (late ms) ≡ imports_first ms
late_none [] = refl
late_none (import_ ∷ ms) = late_none ms
late_none (definition ∷ ms) = each_late_none ms

no_model : (b : Bool) (k : FaultKind) (n : NameModel) → no_items (model_if b k n) ≡ not b
no_model true k n = refl
no_model false k n = refl

not_not : (b : Bool) → not (not b) ≡ b
not_not true = refl
not_not false = refl

-- none of the names ns is one of ms
abbrev apart : List NameModel → List NameModel → Bool
apart ms [] = true
apart ms (n ∷ ns) = not (has_name n ms) && apart ms ns

apart-nil : (ns : List NameModel) → apart [] ns ≡ true
apart-nil [] = refl
apart-nil (n ∷ ns) = apart-nil ns

-- four tests in another order
in_order : (a b c d : Bool) → (not (a || c) && (b && not d)) ≡ ((not a && b) && not (c || d))
in_order true b c d = refl
in_order false true true d = refl
in_order false true false d = refl
in_order false false true d = refl
in_order false false false d = refl

apart-push : (ms ns : List NameModel) (m : NameModel)
    → apart (ms ++ m ∷ []) ns ≡ (apart ms ns && not (has_name m ns))
apart-push ms [] m = refl
apart-push ms (n ∷ ns) m =
    let h : has_name n (ms ++ m ∷ []) ≡ (has_name n ms || same_name m n) =
    has_name-append n ms (m ∷ [])
    ∙ ap (λ b. has_name n ms || b) (or-false (same_name n m) ∙ same_name_sym n m) in
    rw h (rw (apart-push ms ns m) (in_order (has_name n ms) (apart ms ns) (same_name m n) (has_name m ns)))

-- the tests of a first name, and of those after it
regrouped : (a b c d : Bool) → (a && ((b && c) && d)) ≡ ((a && b) && (c && d))
regrouped true b c d = and_assoc b c d
regrouped false b c d = refl

doubled_apart : (ms ns : List NameModel) → no_items (doubled ms ns) ≡ (apart ms ns && distinct ns)
doubled_apart ms [] = refl
doubled_apart ms (n ∷ ns) =
    let first = model_if (has_name n ms) kind.DoubledName n in
    none-append first (doubled (ms ++ n ∷ []) ns)
    ∙ ap (λ b. b && no_items (doubled (ms ++ n ∷ []) ns)) (no_model (has_name n ms) kind.DoubledName n)
    ∙ ap (λ b. not (has_name n ms) && b) (doubled_apart (ms ++ n ∷ []) ns ∙ ap (λ b. b && distinct ns) (apart-push ms ns n))
    ∙ regrouped (not (has_name n ms)) (apart ms ns) (not (has_name n ns)) (distinct ns)

-- no name is doubled exactly if the names are distinct
pub doubled_none : (ns : List NameModel) → no_items (doubled [] ns) ≡ distinct ns
doubled_none ns = doubled_apart [] ns ∙ ap (λ b. b && distinct ns) (apart-nil ns)

-- no name is unknown exactly if each is known
pub unknown_none : (ds us : List NameModel) → no_items (unknown ds us) ≡ all_known ds us
unknown_none ds [] = refl
unknown_none ds (u ∷ us) =
    let h = has_name u ds in
    none-append (model_if (not h) kind.UnknownName u) (unknown ds us)
    ∙ ap (λ b. b && no_items (unknown ds us)) (no_model (not h) kind.UnknownName u ∙ not_not h)
    ∙ ap (λ b. h && b) (unknown_none ds us)

-- the same of faults, whose views are models
pub none_viewed : (fs : List NameFault) → no_items fs ≡ no_items (faults_view fs)
none_viewed [] = refl
none_viewed (f ∷ fs) = refl
