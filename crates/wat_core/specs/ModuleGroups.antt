-- The groups of a text.
use Rattle.std.specs.Prelude.{slice_range, ◌≡◌, ◌≤◌, ℕ, ◌+◌, true, false, List, [], ◌∷◌, drop, Option, Some, None}
use Rattle.std.specs.Str.{IsCharBoundary}
use Rattle.wat_fields.specs.Prelude.{IsCut, Placed, LParen, begins_lparen}
use Rattle.wat_tokens.specs.State.{State}
use Rattle.wat_tokens.specs.Visible.{shown, seen, closing, rest_by}
use Rattle.wat_core.specs.ModuleHead.{behind_head, has_head, wrong_end}
use Rattle.wat_core.specs.declared.module_group.Group.{Group}

-- the bytes of a group
abbrev pub bytes_of : List ℕ → Group → List ℕ
bytes_of text g = slice_range text g.from g.end

-- the group is a part of the text that begins and ends at character boundaries
pub record IsPart (text : List ℕ) (g : Group) : Type 0 where
  pub order : g.from ≤ g.end
  pub begins : IsCharBoundary text g.from
  pub ends : IsCharBoundary text g.end

-- the end of a group in a text of `size` bytes: after its `)`, or the end of the text
abbrev pub end_by : ℕ → Option (ℕ × List Placed) → ℕ
end_by size (Some c) = c.0 + 1
end_by size None = size

-- In a text of `size` bytes the group is next. It goes from its `(` to its `)`, or to the end of
-- the text if it isn't closed. `rest` has the tokens after the group.
abbrev pub IsNext : ℕ → List Placed → Group → List Placed → Type 0
IsNext size ts g rest =
    (inner : List Placed) × (shown true ts ≡ record { token = LParen; offset = g.from } ∷ inner)
    × (g.end ≡ end_by size (closing 0 inner)) × (rest ≡ rest_by (closing 0 inner))

-- The tokens begin with the groups, one after the other. In the tokens that are left, the next
-- visible token isn't `(`.
pub data GroupsTo : ℕ → List Placed → List Group → List Placed → Type 0 where
  none : (size : ℕ) (ts : List Placed) → begins_lparen (seen true ts) ≡ false
      → GroupsTo size ts [] ts
  next : (size : ℕ) (ts rest left : List Placed) (g : Group) (gs : List Group)
      → IsNext size ts g rest → GroupsTo size rest gs left → GroupsTo size ts (g ∷ gs) left

-- The groups after the module's head, and the offset of an error after the groups. A text without a
-- head has no groups.
pub data HasGroups : ℕ → List Placed → List Group → Option ℕ → Type 0 where
  headless : (size : ℕ) (ts : List Placed) → has_head ts ≡ false → HasGroups size ts [] None
  headed : (size : ℕ) (ts left : List Placed) (gs : List Group) → has_head ts ≡ true
      → GroupsTo size (behind_head ts) gs left → HasGroups size ts gs (wrong_end size left)

-- The parser knows the five standard annotations, and its tokens are the last of the text's cut.
pub record IsWithin (text : List ℕ) (p : State) : Type 0 where
  pub known : p.known ≡ true
  pub left : p.left ≡ seen true p.rest
  pub last : (ts : List Placed) × (i : ℕ) × IsCut text ts × (p.rest ≡ drop i ts)
