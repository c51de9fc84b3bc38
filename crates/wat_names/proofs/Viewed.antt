-- Faults that were appended, as models.
use Rattle.std.proofs.Common.{◌≡◌, List, [], ◌++◌, ap, ◌∙◌}
use Rattle.std.proofs.lemmas.List.{map-append}
use Rattle.wat_scopes.specs.FaultModels.{doubled, fault_view, faults_view, late, marks_view, unknown}
use Rattle.wat_scopes.specs.Imports.{late_imports}
use Rattle.wat_scopes.specs.Known.{names}
use Rattle.wat_scopes.specs.Laws.FaultModels.{doubled_view, late_view, unknown_view}
use Rattle.wat_scopes.specs.NameFaults.{doubled_faults, unknown_faults}
use Rattle.wat_scopes.specs.declared.fault.NameFault.{NameFault}
use Rattle.wat_scopes.specs.declared.imports.Mark.{Mark}
use Rattle.wat_scopes.specs.declared.space.Name.{Name}

-- faults of imports
pub late_added : (old new : List NameFault) (ms : List Mark) → new ≡ old ++ late_imports ms
    → faults_view new ≡ faults_view old ++ late (marks_view ms)
late_added old new ms e =
    ap faults_view e ∙ map-append fault_view old (late_imports ms)
    ∙ ap (λ fs. faults_view old ++ fs) (late_view ms)

-- faults of names: ds are defined, os are aliases, us are used
pub names_added : (old new : List NameFault) (ds os us : List Name)
    → new ≡ old ++ (doubled_faults [] ds ++ unknown_faults (names ds ++ names os) us)
    → faults_view new
    ≡ faults_view old ++ (doubled [] (names ds) ++ unknown (names ds ++ names os) (names us))
names_added old new ds os us e =
    let ks = names ds ++ names os in
    ap faults_view e ∙ map-append fault_view old (doubled_faults [] ds ++ unknown_faults ks us)
    ∙ ap (λ fs. faults_view old ++ fs) (map-append fault_view (doubled_faults [] ds) (unknown_faults ks us)
    ∙ ap (λ fs. fs ++ faults_view (unknown_faults ks us)) (doubled_view [] ds)
    ∙ ap (λ fs. doubled [] (names ds) ++ fs) (unknown_view ks us))
