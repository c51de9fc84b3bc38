-- The labels of the blocks that are open, the innermost first (Core Specification, Text Format,
-- "Control Instructions").
use Rattle.std.specs.Prelude.{ℕ, List, [], ◌∷◌, Option, map}
use Rattle.wat_tokens.specs.Prelude.{name_of, option_view}
use Rattle.wat_scopes.specs.Steps.{ActModel, begins, refers, else_, end_, catch_, catch_all, delegate}
use Rattle.wat_scopes.specs.declared.open.OpenBlock.{OpenBlock}

-- the label of each block, if it has one
abbrev pub labels : List OpenBlock → List (Option (List ℕ))
labels bs = map (λ b. option_view name_of b.label) bs

-- without the first, if there is one
abbrev pub left : List (Option (List ℕ)) → List (Option (List ℕ))
left [] = []
left (l ∷ ls) = ls

-- the labels after an allowed act, in blocks with the labels ls
abbrev pub labels_after : List (Option (List ℕ)) → ActModel → List (Option (List ℕ))
labels_after ls (begins p l) = l ∷ ls
labels_after ls (refers n) = ls
labels_after ls (else_ l) = ls
labels_after ls (end_ l) = left ls
labels_after ls catch_ = ls
labels_after ls catch_all = ls
labels_after ls delegate = left ls

-- the same, after allowed acts
abbrev pub open_labels : List (Option (List ℕ)) → List ActModel → List (Option (List ℕ))
open_labels ls [] = ls
open_labels ls (x ∷ xs) = open_labels (labels_after ls x) xs
