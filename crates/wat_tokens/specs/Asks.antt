-- What a production asks of the rest, and which rests are alike for it.
use Rattle.std.specs.Prelude.{◌≡◌, ℕ, ◌≤◌, Bool, List, ◌++◌, length, ⊤}
use Rattle.wat_lexer.specs.Token.{Token}
use Rattle.wat_tokens.specs.Parens.{opens, closes}
use Rattle.wat_tokens.specs.Test.{Test, run}

pub data Asks : Type 0 where
  nothing : Asks
  -- the test has the given answer
  ask : Bool → Test → Asks
  also : Asks → Asks → Asks
  -- the same of at least so many tokens, with no more `(` than `)`, followed by
  -- the rest
  behind : ℕ → Asks → Asks
  -- every answer of every test, of any tokens followed by the rest
  everything : Asks

-- u gives each answer that t gives
abbrev pub Alike : Asks → List Token → List Token → Type 0
Alike nothing t u = ⊤
Alike (ask b test) t u = run test t ≡ b → run test u ≡ b
Alike (also a b) t u = Alike a t u × Alike b t u
Alike (behind k a) t u =
    (e : List Token) → k ≤ length e → opens e ≤ closes e → Alike a (e ++ t) (e ++ u)
Alike everything t u =
    (e : List Token) (b : Bool) (test : Test) → run test (e ++ t) ≡ b → run test (e ++ u) ≡ b
