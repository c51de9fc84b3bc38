-- Which questions a rest settles, by what is known of the rest.
use Rattle.std.specs.Prelude.{ℕ, ◌+◌, ltb, max, Bool, true, false, not, ◌&&◌, if◌then◌else◌}
use Rattle.wat_tokens.specs.Asks.{Asks, nothing, ask, also, behind, everything}
use Rattle.wat_tokens.specs.Kind.{a_lparen}
use Rattle.wat_tokens.specs.Test.{Question, starts, after, either, both, opposite, always, sight}

-- off: questions that the rest answers with no
-- off_second: questions that the tokens after the first token of the rest answer with no
module _ (off off_second : Question → Bool) where
  abbrev pub need_behind : Question → ℕ
  need_behind a =
      if ltb (sight a) 2 && off a then (if off_second a then 0 else 1) else 1 + sight a

  -- how many tokens before the rest keep the answer no
  abbrev pub need_no : Question → ℕ
  need_no (starts k) = if off (starts k) then 0 else 1
  need_no (after (starts a_lparen) (starts k)) =
      if off (after (starts a_lparen) (starts k)) then 0 else 1
  need_no (after (always true) a) = need_behind a
  need_no a = sight a

  -- how many tokens before the rest keep the answer b
  abbrev pub need : Bool → Question → ℕ
  need b (either a c) = max (need b a) (need b c)
  need b (both a c) = max (need b a) (need b c)
  need b (opposite a) = need (not b) a
  need true a = sight a
  need false a = need_no a

  -- k tokens before the rest keep all answers
  abbrev pub settled : ℕ → Asks → Bool
  settled k nothing = true
  settled k (ask b test) = not (ltb k (need b test.asks))
  settled k (also a b) = settled k a && settled k b
  settled k (behind j a) = settled (j + k) a
  settled k everything = false
