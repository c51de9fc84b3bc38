-- Operands that the production of their type reads.
use Rattle.std.proofs.Common.{true, List, Err, subst, sym, refl}
use Rattle.wat_instr.specs.Prelude.{Cost, Costs, Error, Refuses, Production, Call, State, refused_as, ViewOf, Op, InstructionModel, instr_of, Operand, operand, ReadsOperand}
use Rattle.wat_instr.specs.Instruction.{heapless_instruction}
use Rattle.wat_instr.specs.Operand.{heapless_operand}
use Rattle.wat_instr.specs.OperandOf.{IsOperandOf}

-- if the operand is refused, no instruction is read
pub refused_operand : {X V : Type 0} {h : Op} {seen : X → Operand} {k : Cost} {view : ViewOf X V} {g : Production V} → IsOperandOf h seen k view g → (a b : State) (e : Error) (before : List InstructionModel) → Call {X = X} k view (g.reads a.left) (Err e) a b → ReadsOperand {X = Unit {0}} h before before (Err e) a b
unfolding ReadsOperand
refused_operand {h = h} {view = view} {g = g} is a b e before c = record {
  exact = (
    refused_as true heapless_operand heapless_instruction (instr_of h) (λ _. refl) e.fault ((operand h).reads a.left)
        (subst (λ q. Refuses true heapless_operand e.fault q) (sym (is.reads a.left))
        (refused_as view.may_use_heap view.heapless heapless_operand is.make is.heapless e.fault (g.reads a.left) c.exact)),
    refl,
  );
  counts = c.counts;
  cost = subst (λ q. Costs q a b) is.cost c.cost;
  settings = c.settings;
}
