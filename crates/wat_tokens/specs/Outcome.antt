-- The result of a parse and the tokens that it takes, by the next tokens.
use Rattle.std.specs.Prelude.{◌≡◌, ◌≢◌, ◌≤◌, ◌+◌, ◌++◌, List, length, max, Result, IfOk, IfErr}
use Rattle.wat_lexer.specs.Token.{Token}
use Rattle.wat_tokens.specs.Counts.{Grows}
use Rattle.wat_tokens.specs.Error.{Error, Memory}
use Rattle.wat_tokens.specs.Parens.{nest}
use Rattle.wat_tokens.specs.Parses.{Accepts}
use Rattle.wat_tokens.specs.Production.{Production, Front}
use Rattle.wat_tokens.specs.State.{State}
use Rattle.wat_tokens.specs.Views.{ViewOf}
use Rattle.wat_tokens.specs.Visible.{placed_behind}

-- A call from a to b returned r: it reads exactly the value that a prefix of a.left spells.
-- sound: the tokens that were taken spell the value
-- accepts: if a prefix of a.left spells a value, r is that value or Memory
-- refused: if r is a fault other than Memory, no prefix of a.left spells a value
pub record ReadsPrefix {X A : Type 0} (view : ViewOf X A) (g : Production A) (r : Result X Error)
    (a b : State) : Type 0 where
  pub sound : IfOk r (λ x. Front g.spells a.left (view.of x, b.left))
  pub accepts : (v : A) (c d : List Token) → a.left ≡ c ++ d → g.spells v c d
      → Accepts view r v b.left d
  pub refused : IfErr r (λ e. e.fault ≢ Memory → (v : A) (c d : List Token) → a.left ≡ c ++ d
      → g.spells v c d → ⊥)

-- From a to b a prefix c of a.left was taken, also on an error.
-- end: b.left is a suffix of a.left
-- position: the parser is directly after the last token that was taken, and the tokens that are
-- left have the same offsets as before
-- taken: `taken` rose by the number of tokens that were taken
-- within: the number of tokens taken and left together did not change
-- peak: `peak` is at most its old value, or the nesting of c
-- grows: no count fell
pub record TakesPrefix (a b : State) : Type 0 where
  pub end : (c : List Token) × (a.left ≡ c ++ b.left)
  pub position : (c : List Token) → a.left ≡ c ++ b.left
      → b.rest ≡ placed_behind a.known (length c) a.rest
  pub taken : (c : List Token) → a.left ≡ c ++ b.left → b.taken ≡ a.taken + length c
  pub within : b.taken + length b.left ≡ a.taken + length a.left
  pub peak : (c : List Token) → a.left ≡ c ++ b.left → b.peak ≤ max a.peak (nest c)
  pub grows : Grows a b
