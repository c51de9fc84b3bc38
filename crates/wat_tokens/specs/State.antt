-- A parser as contracts see it.
use Rattle.std.specs.Prelude.{◌≡◌, List, ℕ, zero, suc, ◌+◌, drop, Bool, true, false}
use Rattle.wat_lexer.specs.Prelude.{IsCut, hidden_count, Token, Placed}
use Rattle.wat_tokens.specs.Visible.{seen}

-- rest: all tokens from the position on, with their offsets; left: the visible tokens of rest;
-- known: whether the five standard annotations are known;
-- tracks: whether spans of instructions are kept.
-- Counts: taken: tokens taken; turns: turns of loops; probes: comparisons of a word with an entry
-- of a table; peak: the greatest height of a stack of open groups; held: the greatest number of
-- heads that the stack holds.
pub record State : Type 0 where
  pub rest : List Placed
  pub left : List Token
  pub known : Bool
  pub tracks : Bool
  pub taken : ℕ
  pub turns : ℕ
  pub probes : ℕ
  pub peak : ℕ
  pub held : ℕ

-- a parser at the first token: no annotation is known, no span is kept, and all counts are 0
abbrev pub begun : List Placed → State
begun ts = record {
  rest = ts;
  left = seen false ts;
  known = false;
  tracks = false;
  taken = 0;
  turns = 0;
  probes = 0;
  peak = 0;
  held = 0;
}

-- a parser at the first token of the text's cut
abbrev pub IsFresh : List ℕ → State → Type 0
IsFresh text p = (ts : List Placed) × IsCut text ts × (p ≡ begun ts)

-- the tokens directly after the first n visible tokens, without offsets
unfoldable pub behind : Bool → ℕ → List Token → List Token
behind known zero t = t
behind known (suc n) t = behind known n (drop (hidden_count known t + 1) t)

-- the parser with the five annotations known
abbrev pub annotated : State → State
annotated s = record s { known = true; left = seen true s.rest }
