-- The result of a parse.
use Rattle.std.specs.Prelude.{◌≡◌, ◌≢◌, Result, Ok, Err, Some, None, List, Bool, true, false}
use Rattle.wat_lexer.specs.Token.{Token}
use Rattle.wat_tokens.specs.Production.{Read}
use Rattle.wat_tokens.specs.Error.{Error, Fault, Memory}
use Rattle.wat_tokens.specs.Views.{ViewOf}

-- the next tokens spell no heapless value
abbrev pub NotHeapless : {A : Type 0} → (A → Bool) → Read A → Type 0
NotHeapless heapless (Some x) = heapless x.0 ≡ false
NotHeapless heapless None = Unit {0}

-- The meaning of an error: the next tokens spell no value. If values may own memory, Memory means
-- only that the next tokens spell no heapless value. If they own no memory, the error isn't Memory.
abbrev pub Refuses : {A : Type 0} → Bool → (A → Bool) → Fault → Read A → Type 0
Refuses true heapless f read = (f ≢ Memory → read ≡ None) × (f ≡ Memory → NotHeapless heapless read)
Refuses false heapless f read = (read ≡ None) × (f ≢ Memory)

-- The view of the returned value is the value of `read`, and `left` are the tokens after it. On an
-- error, `Refuses` holds.
abbrev pub Gives : {X A : Type 0} → ViewOf X A → Result X Error → Read A → List Token → Type 0
Gives view (Ok x) read left = read ≡ Some (view.of x, left)
Gives view (Err e) read left = Refuses view.may_use_heap view.heapless e.fault read

-- The result is the value v, with r left, or Memory. If v is heapless, the result isn't Memory.
abbrev pub Accepts : {X A : Type 0} → ViewOf X A → Result X Error → A → List Token → List Token
    → Type 0
Accepts view (Ok x) v left r = (view.of x ≡ v) × (left ≡ r)
Accepts view (Err e) v left r = (e.fault ≡ Memory) × (view.heapless v ≡ false)
