-- How a call changes the counts of a parser.
use Rattle.std.specs.Prelude.{◌≡◌, ℕ, ◌+◌, ◌≤◌, List, ◌++◌, length, max, Result, Ok, Err}
use Rattle.wat_lexer.specs.Token.{Token}
use Rattle.wat_tokens.specs.Parens.{nest}
use Rattle.wat_tokens.specs.State.{State}
use Rattle.wat_tokens.specs.Visible.{placed_behind}

-- no count but `taken` fell
abbrev pub Grows : State → State → Type 0
Grows a b = (a.turns ≤ b.turns) × (a.probes ≤ b.probes) × (a.peak ≤ b.peak) × (a.held ≤ b.held)

-- From a to b the tokens `front` were taken, and the position is directly after them: the tokens
-- that are left have the same offsets as before. No count fell, `peak` rose at most to the nesting
-- of `front`, and `known` did not change.
pub record CountsBy (a : State) (b : State) : Type 0 where
  pub front : List Token
  pub left : a.left ≡ front ++ b.left
  pub taken : b.taken ≡ a.taken + length front
  pub more : Grows a b
  pub peak : b.peak ≤ max a.peak (nest front)
  pub known : b.known ≡ a.known
  pub position : b.rest ≡ placed_behind a.known (length front) a.rest

unfoldable pub Counts : State → State → Type 0
Counts a b = CountsBy a b

-- counts since any earlier state s that hold at a also hold at b
abbrev pub Carries : State → State → Type 0
Carries a b = (s : State) → Counts s a → Counts s b

-- the turns allowed beyond the tokens: one on an error
abbrev pub on_refusal : {X E : Type 0} → Result X E → ℕ
on_refusal (Ok _) = 0
on_refusal (Err _) = 1

-- `turns` rose at most as much as `taken`, or by one more on an error
abbrev pub Turned : {X E : Type 0} → Result X E → State → State → Type 0
Turned r a b = b.turns + a.taken ≤ a.turns + b.taken + on_refusal r

-- both, for a call that returns r
abbrev pub Counted : {X E : Type 0} → Result X E → State → State → Type 0
Counted r a b = Carries a b × Turned r a b

-- only `taken` changed: no turn, no comparison and no height was counted
abbrev pub Quiet : State → State → Type 0
Quiet a b = (b.turns ≡ a.turns) × (b.probes ≡ a.probes) × (b.peak ≡ a.peak) × (b.held ≡ a.held)

-- no turn and no height was counted
abbrev pub Stays : State → State → Type 0
Stays a b = (b.turns ≡ a.turns) × (b.peak ≡ a.peak) × (b.held ≡ a.held)

-- the settings are as before: known annotations, and whether instruction spans are kept
abbrev pub SameSettings : State → State → Type 0
SameSettings a b = (b.known ≡ a.known) × (b.tracks ≡ a.tracks)
