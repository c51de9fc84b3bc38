-- Groups in parentheses, and the tokens that lookups and parsers see. Groups whose annotation isn't
-- known are hidden.
use Rattle.std.specs.Prelude.{ℕ, zero, suc, ◌+◌, ◌-◌, Bool, true, false, not, ◌&&◌, ◌||◌, if◌then◌else◌, List, [], ◌∷◌, Option, Some, None, codes}
use Rattle.std.specs.Str.{bytes_eq}
use Rattle.wat_lexer.specs.Token.{Token, LParen, RParen, Annotation}

-- the token closes the group in which `depth` more groups are open
abbrev pub shuts : Token → ℕ → Bool
shuts RParen zero = true
shuts _ _ = false

-- the number of open groups after the token
abbrev pub deeper : Token → ℕ → ℕ
deeper LParen depth = depth + 1
deeper RParen depth = depth - 1
deeper _ depth = depth

-- the tokens after the `)` of a group in which `depth` more groups are open, if the group is closed
unfoldable pub behind_group : ℕ → List Token → Option (List Token)
behind_group depth [] = None
behind_group depth (x ∷ r) = if shuts x depth then Some r else behind_group (deeper x depth) r

-- one of the five standard names
abbrev pub is_standard : List ℕ → Bool
is_standard n =
    bytes_eq n (codes "custom") || (bytes_eq n (codes "producers")
    || (bytes_eq n (codes "name") || (bytes_eq n (codes "dylink.0")
    || bytes_eq n (codes "metadata.code.branch_hint"))))

-- a group that begins with an annotation is in front
abbrev pub begins_annotation_group : List Token → Bool
begins_annotation_group (LParen ∷ Annotation n ∷ r) = true
begins_annotation_group _ = false

abbrev pub annotation_name : List Token → List ℕ
annotation_name (LParen ∷ Annotation n ∷ r) = n
annotation_name _ = []

-- a group whose annotation isn't known is in front; with `known` the five standard names are known
abbrev pub begins_hidden_group : Bool → List Token → Bool
begins_hidden_group known t =
    begins_annotation_group t && not (known && is_standard (annotation_name t))

-- The tokens without the hidden groups. `Some depth` is a place within a hidden group, in which
-- `depth` more groups are open.
unfoldable pub visible : Bool → Option ℕ → List Token → List Token
visible known place [] = []
visible known None (x ∷ r) =
    if begins_hidden_group known (x ∷ r) then visible known (Some 0) r else x ∷ visible known None r
visible known (Some depth) (x ∷ r) =
    if shuts x depth then visible known None r else visible known (Some (deeper x depth)) r

-- the visible tokens
unfoldable pub visible_tokens : Bool → List Token → List Token
visible_tokens known t = visible known None t

-- the number of tokens before the first visible token, with places as in `visible`
unfoldable pub hidden_count_at : Bool → Option ℕ → List Token → ℕ
hidden_count_at known place [] = 0
hidden_count_at known None (x ∷ r) =
    if begins_hidden_group known (x ∷ r) then suc (hidden_count_at known (Some 0) r) else 0
hidden_count_at known (Some depth) (x ∷ r) =
    if shuts x depth then suc (hidden_count_at known None r) else suc
    (hidden_count_at known (Some (deeper x depth)) r)

-- the number of tokens before the first visible token
unfoldable pub hidden_count : Bool → List Token → ℕ
hidden_count known t = hidden_count_at known None t
