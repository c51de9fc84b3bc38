-- Folded instructions of any kind. Blocks get no `end`, and instructions have no hints.
use Rattle.std.specs.Prelude.{◌≡◌, ℕ, zero, suc, ◌+◌, max, List, [], ◌∷◌, ◌++◌, length, Some, None}
use Rattle.wat_instr.specs.Prelude.{Token, LParen, RParen, Read, bind, some_of, InstructionModel, instruction}
use Rattle.wat_expr.specs.Items.{reads}
use Rattle.wat_expr.specs.Expression.{ExpressionModel}
use Rattle.wat_expr.specs.Reading.{closed}

-- A list of groups: the instruction and the groups of the first group, and the groups after it.
pub data Groups : Type 0 where
  NoGroup : Groups
  Group : InstructionModel → Groups → Groups → Groups

-- The tokens ts list the groups before the rest r. Each group is ( i groups ).
abbrev pub groups : Groups → List Token → List Token → Type 0
groups NoGroup ts r = ts ≡ r
groups (Group i gs hs) ts r =
    (a b d : List Token) × (ts ≡ LParen ∷ a) × reads i a b × groups gs b (RParen ∷ d)
    × groups hs d r

-- the instructions, each after the instructions of its groups
abbrev pub unfolded_groups : Groups → List InstructionModel
unfolded_groups NoGroup = []
unfolded_groups (Group i gs hs) = (unfolded_groups gs ++ i ∷ []) ++ unfolded_groups hs

-- the number of groups, and their nesting depth
abbrev pub count_groups : Groups → ℕ
count_groups NoGroup = 0
count_groups (Group i gs hs) = suc (count_groups gs + count_groups hs)

abbrev pub depth_groups : Groups → ℕ
depth_groups NoGroup = 0
depth_groups (Group i gs hs) = max (suc (depth_groups gs)) (depth_groups hs)

-- The tokens ts list the single group ( i groups ) before the rest r.
abbrev pub is_folded : InstructionModel → Groups → List Token → List Token → Type 0
is_folded i gs ts r = (a b : List Token) × (ts ≡ LParen ∷ a) × reads i a b
    × groups gs b (RParen ∷ r)

-- the expression of the group
abbrev pub folded_value : InstructionModel → Groups → ExpressionModel
folded_value i gs = record { instrs = unfolded_groups gs ++ i ∷ []; hints = [] }

-- ---- the reader

unfoldable pub groups_at : ℕ → List Token → Read Groups
groups_at zero t = None
groups_at (suc n) (LParen ∷ t) =
    bind (instruction.reads t) (λ i b. bind (groups_at n b)
    (λ gs u. bind (closed u) (λ _ d. bind (groups_at n d) (λ hs r. some_of (Group i gs hs, r)))))
groups_at (suc n) t = Some (NoGroup, t)

abbrev pub folded_reads : List Token → Read ExpressionModel
folded_reads (LParen ∷ t) =
    bind (instruction.reads t) (λ i b. bind (groups_at (suc (length b)) b)
    (λ gs u. bind (closed u) (λ _ r. some_of (folded_value i gs, r))))
folded_reads _ = None

-- ---- the production

-- The tokens c list one group before the rest r. The expression has the instructions of the group,
-- each after the instructions of its groups, and no hints.
abbrev pub folded_spells : ExpressionModel → List Token → List Token → Type 0
folded_spells e c r =
    (i : InstructionModel) × (gs : Groups) × is_folded i gs (c ++ r) r × (e ≡ folded_value i gs)
