-- Instructions and hints that are written in order.
use Rattle.std.proofs.Common.{◌≡◌, ℕ, zero, suc, ◌+◌, ◌<◌, true, false, List, [], ◌∷◌, ◌++◌, flat_map, map, length, drop, Option, Some, None, option_map, refl, ap, subst, sym, ◌∙◌, append_assoc, append-nil, get_or, arith}
use Rattle.wat_print_instr.specs.Laws.Prelude.{flat_map-append, and_right, drop_more, Token, InstructionModel, Writes, each, Page, each_both, puts_both, puts_put, puts_line, put_both, HintedInstruction, step_of, spell_step, printable_step, steps_from, hint_for, hints_after, printable_expression, passes, next_step}

-- one more value of a list
pub ruleset value_more = (drop_more, put_both)

-- a line break, or nothing
pub ruleset line_or_nothing = (puts_line, puts_put)

-- The steps before the index b were written from p to q. The remaining instructions and hints give
-- the steps from b on.
pub record Walked (is : List InstructionModel) (hs : List (ℕ × ℕ)) (b : ℕ) (left : List (ℕ × ℕ)) (p q : Page)
    : Type 0 where
  pub done : List HintedInstruction
  pub goes : steps_from 0 is hs
      ≡ option_map (λ xs. done ++ xs) (steps_from b (drop b is) left)
  pub written : Writes (flat_map spell_step done) p q
  pub printable : each printable_step done ≡ true

-- one more instruction
map_twice : (x : HintedInstruction) (done : List HintedInstruction) (o : Option (List HintedInstruction))
    → option_map (λ xs. done ++ xs) (option_map (λ xs. x ∷ xs) o)
    ≡ option_map (λ xs. (done ++ x ∷ []) ++ xs) o
map_twice x done (Some xs) =
    ap (λ (l : List HintedInstruction). Some l) (sym (append_assoc done (x ∷ []) xs))
map_twice x done None = refl

pub walk_goes : (is : List InstructionModel) (hs : List (ℕ × ℕ)) (b : ℕ) (left : List (ℕ × ℕ)) (i : InstructionModel)
    (p q s : Page) → drop b is ≡ i ∷ drop (b + 1) is → Walked is hs b left p q
    → Writes (spell_step (step_of (hint_for b left) i)) q s
    → printable_step (step_of (hint_for b left) i) ≡ true
    → Walked is hs (b + 1) (hints_after b left) p s
walk_goes is hs b left i p q s e w v f =
    let x = step_of (hint_for b left) i in record {
      done = w.done ++ x ∷ [];
      goes = w.goes
          ∙ ap (λ (l : List InstructionModel). option_map (λ xs. w.done ++ xs) (steps_from b l left)) e
          ∙ ap (λ (o : Option (List HintedInstruction)). option_map (λ xs. w.done ++ xs) o)
          (next_step b i (drop (b + 1) is) left)
          ∙ map_twice x w.done (steps_from (b + 1) (drop (b + 1) is) (hints_after b left));
      written = subst (λ (l : List Token). Writes l p s)
          (sym (flat_map-append spell_step w.done (x ∷ [])
          ∙ ap (λ (l : List Token). flat_map spell_step w.done ++ l) (append-nil (spell_step x))))
          (puts_both (flat_map spell_step w.done) (spell_step x) p q s w.written v);
      printable = each_both printable_step w.done (x ∷ []) w.printable (rw f refl);
    }

-- ---- the end of the walk

not_all : (done : List HintedInstruction) (x : HintedInstruction) (xs : List HintedInstruction)
    → printable_step x ≡ false
    → each printable_step (done ++ x ∷ xs) ≡ false
not_all [] x xs f = rw f refl
not_all (d ∷ done) x xs f =
    and_right (printable_step d) (each printable_step (done ++ x ∷ xs)) (not_all done x xs f)

not_passed : (done : List HintedInstruction) (x : HintedInstruction) (o : Option (List HintedInstruction))
    → printable_step x ≡ false
    → passes (each printable_step)
    (option_map (λ xs. done ++ xs) (option_map (λ xs. x ∷ xs) o)) ≡ false
not_passed done x (Some xs) f = not_all done x xs f
not_passed done x None f = refl

-- a step can't be written, so the expression can't be written
pub walk_stops : (is : List InstructionModel) (hs : List (ℕ × ℕ)) (b : ℕ) (left : List (ℕ × ℕ)) (i : InstructionModel)
    (p q : Page) → drop b is ≡ i ∷ drop (b + 1) is → Walked is hs b left p q
    → printable_step (step_of (hint_for b left) i) ≡ false
    → printable_expression (record { instrs = is; hints = hs }) ≡ false
walk_stops is hs b left i p q e w f =
    subst (λ (o : Option (List HintedInstruction)). passes (each printable_step) o ≡ false)
    (sym (w.goes
    ∙ ap (λ (l : List InstructionModel). option_map (λ xs. w.done ++ xs) (steps_from b l left)) e
    ∙ ap (λ (o : Option (List HintedInstruction)). option_map (λ xs. w.done ++ xs) o)
    (next_step b i (drop (b + 1) is) left)))
    (not_passed w.done (step_of (hint_for b left) i)
    (steps_from (b + 1) (drop (b + 1) is) (hints_after b left)) f)

-- the instruction at an index, and the instructions after it
pub drop_step : {X A : Type 0} (v : X → A) (xs : List X) (i : ℕ) (x : X) → i < length xs
    → x ≡ get_or xs i x → drop i (map v xs) ≡ v x ∷ drop (i + 1) (map v xs)
drop_step v [] i x lt s = absurd (omega (arith, lt))
drop_step {X = X} v (y ∷ xs) zero x lt s = ap (λ (z : X). v z ∷ map v xs) (sym s)
drop_step v (y ∷ xs) (suc i) x lt s =
    let e : suc i + 1 ≡ suc (i + 1) = omega arith in
    rw e (drop_step v xs i x (omega (arith, lt)) s)
