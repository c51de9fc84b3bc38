-- A module's head, and the tokens after its groups.
use Rattle.std.specs.Prelude.{ℕ, ◌≡◌, Bool, true, false, not, ◌&&◌, List, [], ◌∷◌, Option, Some, None, MatchOption, if◌then◌else◌, codes}
use Rattle.wat_fields.specs.Prelude.{offset_of, Token, Placed, RParen, Error, begins_lparen, begins_word, begins_id, begins_annotation}
use Rattle.wat_tokens.specs.Error.{Unexpected}
use Rattle.wat_tokens.specs.Visible.{shown, seen, behind_one, closing, rest_by}

-- the tokens after an identifier if an identifier is next, otherwise all tokens
abbrev pub behind_id : List Placed → List Placed
behind_id ts = if begins_id (seen true ts) then behind_one true ts else ts

-- the tokens after a group that begins with the annotation `@name` if such a group is next,
-- otherwise all tokens
abbrev pub behind_name : List Placed → List Placed
behind_name ts =
    if begins_annotation (codes "name") (seen true ts) then rest_by (closing 0 (behind_one true ts))
    else ts

-- the tokens after `(`, `module`, an optional identifier and an optional name; no annotation is
-- known at the `(`, and the five standard annotations are known after that
abbrev pub behind_head : List Placed → List Placed
behind_head ts = behind_name (behind_id (behind_one true (behind_one false ts)))

-- `(` and `module` are next, and `binary` doesn't follow the head
abbrev pub has_head : List Placed → Bool
has_head ts =
    begins_lparen (seen false ts) && (begins_word (codes "module") (seen true (behind_one false ts))
    && not (begins_word (codes "binary") (seen true (behind_head ts))))

-- the offset of the first token, or the end of a text of `size` bytes if there is no token
abbrev pub place_of : ℕ → List Placed → ℕ
place_of size [] = size
place_of size (p ∷ ts) = p.offset

-- the offset of the first token, if there is a token
abbrev pub first_offset : List Placed → Option ℕ
first_offset [] = None
first_offset (p ∷ ts) = Some p.offset

-- the first token is `)`
abbrev pub begins_rparen : List Token → Bool
begins_rparen (RParen ∷ r) = true
begins_rparen _ = false

-- The offset of an error after the groups: a `)` has to be next, and then no token that is visible
-- without annotations.
abbrev pub wrong_end : ℕ → List Placed → Option ℕ
wrong_end size left =
    if begins_rparen (seen true left) then first_offset (shown false (behind_one true left))
    else Some (place_of size (shown true left))

-- the fault Unexpected at the offset, if there is an offset
abbrev pub IsUnexpected : Option Error → Option ℕ → Type 0
IsUnexpected o place =
    MatchOption o (place ≡ None) (λ e. (e.fault ≡ Unexpected) × (place ≡ Some (offset_of e.span)))
