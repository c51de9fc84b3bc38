-- The visible tokens with their offsets.
use Rattle.std.specs.Prelude.{Bool, false, ℕ, List, [], ◌∷◌, Option, Some, None, if◌then◌else◌}
use Rattle.wat_lexer.specs.Prelude.{Placed, begins_hidden_group, shuts, deeper, tokens_of}

-- The tokens without the groups whose annotation isn't known. `Some depth` is a place within such a
-- group, in which `depth` more groups are open.
unfoldable pub visible_at : Bool → Option ℕ → List Placed → List Placed
visible_at known place [] = []
visible_at known None (p ∷ ts) =
    if begins_hidden_group known (tokens_of (p ∷ ts)) then visible_at known (Some 0) ts
    else p ∷ visible_at known None ts
visible_at known (Some depth) (p ∷ ts) =
    if shuts p.token depth then visible_at known None ts
    else visible_at known (Some (deeper p.token depth)) ts

-- the visible tokens, with their offsets, if no annotation is known
unfoldable pub visible_placed : List Placed → List Placed
visible_placed ts = visible_at false None ts
