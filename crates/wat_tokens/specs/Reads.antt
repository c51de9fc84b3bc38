-- The contract of a call that reads by a production.
use Rattle.std.specs.Prelude.{◌≡◌, Result, Option, IfOk, IfErr}
use Rattle.wat_lexer.specs.Token.{Token}
use Rattle.wat_tokens.specs.Cost.{Cost, tokens_alone, Costs}
use Rattle.wat_tokens.specs.Counts.{Counted, SameSettings}
use Rattle.wat_tokens.specs.Error.{Error, Unexpected}
use Rattle.wat_tokens.specs.Parses.{Gives}
use Rattle.wat_tokens.specs.PartSpells.{one_reads}
use Rattle.wat_tokens.specs.Production.{Production, Read}
use Rattle.wat_tokens.specs.State.{State}
use Rattle.wat_tokens.specs.Views.{ViewOf, plain}
use Rattle.wat_tokens.specs.Visible.{behind_one}

-- From a to b a call returned r, where `read` is what its production reads of a.left.
-- exact: the result is the value of `read`, with its rest left; an error means that `read` has no
-- value, or that memory ran out
-- counts: the tokens taken are counted, and turns rose at most by them, or one more on an error
-- cost: the counters that did not change
-- settings: `known` and `tracks` did not change
pub record Call {X A : Type 0} (price : Cost) (view : ViewOf X A) (read : Read A)
    (r : Result X Error) (a b : State) : Type 0 where
  pub exact : Gives view r read b.left
  pub counts : Counted r a b
  pub cost : Costs price a b
  pub settings : SameSettings a b

-- the call returns the value that the next tokens spell, by its view, and counts only tokens
abbrev pub Reads : {X A : Type 0} → ViewOf X A → Production A → Result X Error → State → State
    → Type 0
Reads view g r a b = Call tokens_alone view (g.reads a.left) r a b

-- the same for a call that may count more
abbrev pub ReadsAt : {X A : Type 0} → Cost → ViewOf X A → Production A → Result X Error → State
    → State → Type 0
ReadsAt price view g r a b = Call price view (g.reads a.left) r a b

-- ---- a call that takes one token

-- the call returns the value of the next token, with the view f
abbrev pub Takes : {X A : Type 0} → (X → A) → (Token → Option A) → Result X Error → State → State
    → Type 0
Takes f value_of r a b = Call tokens_alone (plain f) (one_reads value_of a.left) r a b

-- an error is Unexpected, and leaves the parser unchanged
abbrev pub Unmoved : {X : Type 0} → Result X Error → State → State → Type 0
Unmoved r a b = IfErr r (λ e. (e.fault ≡ Unexpected) × (b ≡ a))

-- the parser is directly after the token, and before any hidden groups that follow it
abbrev pub BehindOne : {X : Type 0} → Result X Error → State → State → Type 0
BehindOne r a b = IfOk r (λ _. b.rest ≡ behind_one a.known a.rest)
