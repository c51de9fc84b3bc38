-- Operands that have a type of their own.
use Rattle.std.specs.Prelude.{◌≡◌, List, refl}
use Rattle.wat_instr.specs.Prelude.{Cost, tokens_alone, made, Production, Token, ViewOf, Op, Operand, operand}
use Rattle.wat_instr.specs.Operand.{heapless_operand}

-- The operand of the instruction h is a value of X, and `seen` is its view as an operand.
-- make: the operand, made from the view of a value
-- reads: the production of the operand reads the value with g, and then applies `make`
-- sees: `seen` is the view of the value, and then `make`
-- heapless: the operand is heapless if and only if the value is heapless
-- cost: only tokens are counted
pub record IsOperandOf {X V : Type 0} (h : Op) (seen : X → Operand) (k : Cost)
    (view : ViewOf X V) (g : Production V) : Type 0 where
  pub make : V → Operand
  pub reads : (t : List Token) → (operand h).reads t ≡ (made make g).reads t
  pub sees : (x : X) → seen x ≡ make (view.of x)
  pub heapless : (v : V) → heapless_operand (make v) ≡ view.heapless v
  pub cost : k ≡ tokens_alone

-- an operand that is made by `make`, of the value that is read and of its view, is such an operand
pub made_by : {X V : Type 0} (make : V → Operand) {h : Op} {view : ViewOf X V} {g : Production V}
    → ((t : List Token) → (operand h).reads t ≡ (made make g).reads t)
    → ((v : V) → heapless_operand (make v) ≡ view.heapless v)
    → IsOperandOf h (λ x. make (view.of x)) tokens_alone view g
made_by make same_reading same = record {
  make = make;
  reads = same_reading;
  sees = λ x. refl;
  heapless = same;
  cost = refl;
}
