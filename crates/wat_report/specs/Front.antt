-- The groups before an offset of a text.
use Rattle.std.specs.Prelude.{ℕ, ◌+◌, ◌==◌, ◌&&◌, Bool, false, List, count_by, nat_lt, take, Option, Some, None}
use Rattle.wat_mnemonics.specs.Prelude.{prefix_len, IsCut, Placed, Token, is_close, is_open, tokens_of}
use Rattle.wat_report.specs.declared.front.Groups.{Groups}

-- the number of tokens `(`, and of tokens `)`
unfoldable pub groups_in : List Token → Groups
groups_in ts = record { begun = count_by is_open ts; ended = count_by is_close ts }

-- the number of tokens that begin before the offset
unfoldable pub count_before : ℕ → List Placed → ℕ
count_before at ts = prefix_len (λ t. nat_lt t.offset at) ts

-- the groups of the tokens that begin before the offset
abbrev pub groups_before : ℕ → List Placed → Groups
groups_before at ts = groups_in (take (count_before at ts) (tokens_of ts))

-- the groups before the offset in the cut of the text, if the text has a cut
pub data HasGroups : List ℕ → ℕ → Option Groups → Type 0 where
  cut : (text : List ℕ) (at : ℕ) (ts : List Placed) → IsCut text ts
      → HasGroups text at (Some (groups_before at ts))
  uncut : (text : List ℕ) (at : ℕ) → ((ts : List Placed) → IsCut text ts → ⊥)
      → HasGroups text at None

-- a group ended, and none is open
abbrev pub is_behind_group : Option Groups → Bool
is_behind_group None = false
is_behind_group (Some g) = (g.begun == g.ended) && nat_lt 0 g.ended

-- no group begins before the offset, and none ends
abbrev pub is_before_groups : Option Groups → Bool
is_before_groups None = false
is_before_groups (Some g) = (g.begun == 0) && (g.ended == 0)

-- a group is open
abbrev pub is_in_group : Option Groups → Bool
is_in_group None = false
is_in_group (Some g) = nat_lt g.ended g.begun

-- exactly two groups are open
abbrev pub is_in_two : Option Groups → Bool
is_in_two None = false
is_in_two (Some g) = g.begun == g.ended + 2
