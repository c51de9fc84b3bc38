-- The counters that a parse may change besides `taken`.
use Rattle.wat_tokens.specs.Counts.{Quiet, Stays}
use Rattle.wat_tokens.specs.State.{State}

-- tokens_alone: only `taken`
-- words_too: also comparisons of words, for an instruction
-- turns_too: also turns of a loop and heights, for an expression
pub data Cost : Type 0 where
  tokens_alone : Cost
  words_too : Cost
  turns_too : Cost

-- the counters that did not change from a to b
abbrev pub Costs : Cost → State → State → Type 0
Costs tokens_alone a b = Quiet a b
Costs words_too a b = Stays a b
Costs turns_too a b = Unit {0}
