-- The steps of an expression: what its instructions do with blocks and labels.
use Rattle.std.specs.Prelude.{ℕ, List, Option, map}
use Rattle.wat_tokens.specs.Prelude.{name_of, option_view}
use Rattle.wat_scopes.specs.declared.steps.Act.{Act}
use Rattle.wat_scopes.specs.declared.steps.Part.{Part}
use Rattle.wat_scopes.specs.declared.steps.Step.{Step}
use Rattle.wat_scopes.specs.declared.steps.Act.TheVariants as code

-- an act of an instruction, without positions
pub data ActModel : Type 0 where
  -- begins a block with this first part, perhaps with a label
  begins : Part → Option (List ℕ) → ActModel
  -- uses the label of an enclosing block
  refers : List ℕ → ActModel
  -- `else`, perhaps with a label
  else_ : Option (List ℕ) → ActModel
  -- `end`, perhaps with a label
  end_ : Option (List ℕ) → ActModel
  -- `catch`
  catch_ : ActModel
  -- `catch_all`
  catch_all : ActModel
  -- `delegate`
  delegate : ActModel

abbrev pub act_view : Act → ActModel
act_view (code.Begin p l) = begins p (option_view name_of l)
act_view (code.Refer i) = refers (name_of i)
act_view (code.Else l) = else_ (option_view name_of l)
act_view (code.End l) = end_ (option_view name_of l)
act_view code.Catch = catch_
act_view code.CatchAll = catch_all
act_view code.Delegate = delegate

abbrev pub acts : List Step → List ActModel
acts ss = map (λ s. act_view s.act) ss
