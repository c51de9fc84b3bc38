-- The contract of a call that copies a value.
use Rattle.std.specs.Prelude.{◌≡◌, Result, IfOk, IfErr, false}
use Rattle.wat_tokens.specs.Error.{Error, Memory}
use Rattle.wat_tokens.specs.Views.{ViewOf}

-- same: every part is the same, also the positions
-- seen: contracts see the same value
-- memory: the call fails only with Memory, and only if the value isn't heapless
pub record Copies {X A : Type 0} (alike : X → X → Type 0) (view : ViewOf X A) (r : Result X Error)
    (x : X) : Type 0 where
  pub same : IfOk r (λ y. alike x y)
  pub seen : IfOk r (λ y. view.of y ≡ view.of x)
  pub memory : IfErr r (λ e. (e.fault ≡ Memory) × (view.heapless (view.of x) ≡ false))
