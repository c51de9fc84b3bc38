-- There are no faults of names if the names are distinct and all known.
use Rattle.std.proofs.Common.{◌≡◌, ◌&&◌, List, [], ◌++◌, ap, ◌∙◌}
use Rattle.std.proofs.Math.Bool.{and_assoc}
use Rattle.wat_tokens.specs.Prelude.{no_items}
use Rattle.wat_scopes.specs.Spaces.{NameModel}
use Rattle.wat_scopes.specs.Known.{distinct, all_known, names}
use Rattle.wat_scopes.specs.Laws.FaultModels.{none-append, none_viewed, doubled_view, doubled_none, unknown_view, unknown_none}
use Rattle.wat_scopes.specs.NameFaults.{doubled_faults, unknown_faults}
use Rattle.wat_scopes.specs.declared.space.Name.{Name}
use Rattle.wat_scopes.specs.declared.fault.NameFault.{NameFault}

none_doubled : (ds : List Name) → no_items (doubled_faults [] ds) ≡ distinct (names ds)
none_doubled ds =
    none_viewed (doubled_faults [] ds) ∙ ap no_items (doubled_view [] ds) ∙ doubled_none (names ds)

none_unknown : (ks : List NameModel) (us : List Name)
    → no_items (unknown_faults ks us) ≡ all_known ks (names us)
none_unknown ks us =
    none_viewed (unknown_faults ks us) ∙ ap no_items (unknown_view ks us) ∙ unknown_none ks (names us)

pub none_added : (old mid new : List NameFault) (ds us : List Name) (ks : List NameModel)
    → mid ≡ old ++ doubled_faults [] ds → new ≡ mid ++ unknown_faults ks us
    → no_items new ≡ (no_items old && (distinct (names ds) && all_known ks (names us)))
none_added old mid new ds us ks d u =
    let middle : no_items mid ≡ (no_items old && distinct (names ds)) =
    ap no_items d ∙ none-append old (doubled_faults [] ds) ∙ ap (λ b. no_items old && b) (none_doubled ds) in
    ap no_items u ∙ none-append mid (unknown_faults ks us)
    ∙ ap (λ b. b && no_items (unknown_faults ks us)) middle
    ∙ ap (λ b. (no_items old && distinct (names ds)) && b) (none_unknown ks us)
    ∙ and_assoc (no_items old) (distinct (names ds)) (all_known ks (names us))
