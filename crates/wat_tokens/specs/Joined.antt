-- Consecutive groups of parts, as the list of all their parts.
use Rattle.std.specs.Prelude.{◌≤◌, List, ◌++◌, Option, Some, flat_map}
use Rattle.wat_tokens.specs.Test.{Test}
use Rattle.wat_tokens.specs.Production.{Production, Read}
use Rattle.wat_tokens.specs.Parts.{made}
use Rattle.wat_tokens.specs.Many.{many}
use Rattle.wat_tokens.specs.Adding.{add_rest}

-- all parts of the groups, in order
abbrev pub all_of : {A : Type 0} → List (List A) → List A
all_of gs = flat_map (λ g. g) gs

-- groups as long as one more has to follow, as the list of all their parts
abbrev pub joined : {A : Type 0} → (follows : Test) (g : Production (List A))
    → 1 ≤ g.least → Production (List A)
joined follows g consumes = made (λ gs. all_of gs) (many follows g consumes)

-- the parts of one more group, appended to the parts so far
abbrev pub join : {A : Type 0} → List A → List A → Option (List A)
join before g = Some (before ++ g)

-- all parts that are still to be read, appended to the parts so far
abbrev pub joined_behind : {A : Type 0} → List A → Read (List (List A)) → Read (List A)
joined_behind before read = add_rest join before read
