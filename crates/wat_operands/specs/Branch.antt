-- The indices of a `br_table`, and their split into labels and default.
use Rattle.std.specs.Prelude.{◌≡◌, Bool, List, [], ◌∷◌, ◌++◌, map}
use Rattle.std.proofs.Common.{lit≤}
use Rattle.wat_types.specs.Prelude.{Token, Production, seq, made, many, IndexModel, index_view, index, at_index, no_items, Index}
use Rattle.wat_operands.specs.declared.branch.BrTableIndicesOf.{BrTableIndicesOf}

-- the labels and the default, without positions
pub record BrTableModel : Type 0 where
  pub labels : List IndexModel
  pub default : IndexModel

abbrev pub br_table_of : List IndexModel → IndexModel → BrTableModel
br_table_of ls d = record { labels = ls; default = d }

abbrev pub br_table_view : BrTableIndicesOf Index → BrTableModel
br_table_view b = br_table_of (map index_view b.labels.items) (index_view b.default)

-- has no labels
abbrev pub heapless_br_table : BrTableModel → Bool
heapless_br_table b = no_items b.labels

-- idx and idx*: the first, and the others
abbrev pub indices : Production (IndexModel × List IndexModel)
indices = seq index (many at_index index (lit≤ tt))

-- one or more indices: the last is the default, and the others are the labels
abbrev pub BrTableSpells : BrTableModel → List Token → List Token → Type 0
BrTableSpells b c r =
    (i : IndexModel) × (is : List IndexModel) × indices.spells (i, is) c r
    × (i ∷ is ≡ b.labels ++ b.default ∷ [])

-- ---- as a production

-- the labels and the default, by the first index and the others
abbrev pub split : IndexModel → List IndexModel → BrTableModel
split i [] = br_table_of [] i
split i (j ∷ js) = br_table_of (i ∷ (split j js).labels) (split j js).default

abbrev pub split_list : IndexModel × List IndexModel → BrTableModel
split_list v = split v.0 v.1

abbrev pub br_table_split : Production BrTableModel
br_table_split = made split_list indices
