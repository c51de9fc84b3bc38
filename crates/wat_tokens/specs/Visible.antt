-- Tokens with their offsets: the first visible token, and the `)` that closes a group.
use Rattle.std.specs.Prelude.{◌≡◌, ℕ, zero, suc, Bool, List, [], ◌∷◌, drop, Option, Some, None, if◌then◌else◌}
use Rattle.wat_lexer.specs.Prelude.{hidden_count, visible_tokens, shuts, deeper, Token, Placed, tokens_of}

-- the tokens from the first visible token on; either the five standard annotations are known, or no
-- annotation is known
abbrev pub shown : Bool → List Placed → List Placed
shown known ts = drop (hidden_count known (tokens_of ts)) ts

-- the visible tokens, without their offsets
abbrev pub seen : Bool → List Placed → List Token
seen known ts = visible_tokens known (tokens_of ts)

-- the tokens after the first visible token
abbrev pub behind_one : Bool → List Placed → List Placed
behind_one known ts = drop 1 (shown known ts)

-- the tokens directly after the first n visible tokens
unfoldable pub placed_behind : Bool → ℕ → List Placed → List Placed
placed_behind known zero ts = ts
placed_behind known (suc n) ts = placed_behind known n (behind_one known ts)

-- the offset is that of the first token; any offset if there is no token
abbrev pub IsPlaceOf : ℕ → List Placed → Type 0
IsPlaceOf n [] = Unit {0}
IsPlaceOf n (p ∷ ts) = n ≡ p.offset

-- Within a group in which `depth` more groups are open: the offset of the group's `)` and the
-- tokens after that `)`, if the group is closed.
unfoldable pub closing : ℕ → List Placed → Option (ℕ × List Placed)
closing depth [] = None
closing depth (p ∷ ts) =
    if shuts p.token depth then Some (p.offset, ts) else closing (deeper p.token depth) ts

-- the tokens after a group, by its `)`; none are left if the group isn't closed
abbrev pub rest_by : Option (ℕ × List Placed) → List Placed
rest_by (Some c) = c.1
rest_by None = []
