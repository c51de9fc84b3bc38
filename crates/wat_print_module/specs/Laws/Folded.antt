-- Laws: the expression of a folded instruction can be written.
use Rattle.std.proofs.Common.{◌≡◌, ℕ, ◌+◌, true, ◌&&◌, List, [], ◌∷◌, ◌++◌, Option, Some, None, option_map, refl, subst, sym}
use Rattle.wat_print_instr.specs.Laws.Prelude.{and_parts, Token, InstructionModel, ExpressionModel, Groups, NoGroup, Group, unfolded_groups, folded_value, folded_spells, folded_instruction, is_given, each, OnlyPrintable, each_front, HintedInstruction, step_of, printable_step, steps_from, hint_for, hints_after, printable_expression, passes, printable_instruction, next_step, step_more}
use Rattle.wat_fields.specs.Offset.{head_behind}
use Rattle.wat_print_instr.specs.Laws.FoldedOnly.{groups_printable}

-- ---- steps without hints

abbrev pub Steps : Type 0
Steps = Option (List HintedInstruction)

step_first : (h : Option ℕ) (i : InstructionModel) (o : Steps)
    → passes (each printable_step) (option_map (λ xs. step_of h i ∷ xs) o) ≡ true
    → (printable_step (step_of h i) ≡ true) × (passes (each printable_step) o ≡ true)
step_first h i (Some xs) f = and_parts (printable_step (step_of h i)) (each printable_step xs) f
step_first h i None f = absurd cc

plain_steps : (b : ℕ) (is : List InstructionModel) → each printable_instruction is ≡ true
    → passes (each printable_step) (steps_from b is []) ≡ true
plain_steps b [] f = refl
plain_steps b (i ∷ is) f =
    let a = and_parts (printable_instruction i) (each printable_instruction is) f in
    step_more None i (steps_from (b + 1) is []) a.0 (plain_steps (b + 1) is a.1)

-- an instruction after the others
steps_behind : (b : ℕ) (is : List InstructionModel) (hs : List (ℕ × ℕ)) (i : InstructionModel)
    → printable_instruction i ≡ true → passes (each printable_step) (steps_from b is hs) ≡ true
    → passes (each printable_step) (steps_from b (is ++ i ∷ []) hs) ≡ true
steps_behind b [] [] i f g = rw f refl
steps_behind b [] (h ∷ hs) i f g = absurd cc
steps_behind b (j ∷ is) hs i f g =
    let h = hint_for b hs in
    let ks = hints_after b hs in
    let a = step_first h j (steps_from (b + 1) is ks)
    (subst (λ (o : Steps). passes (each printable_step) o ≡ true) (next_step b j is hs) g) in
    subst (λ (o : Steps). passes (each printable_step) o ≡ true)
    (sym (next_step b j (is ++ i ∷ []) hs))
    (step_more h j (steps_from (b + 1) (is ++ i ∷ []) ks) a.0
    (steps_behind (b + 1) is ks i f a.1))

pub behind_printable : (i : InstructionModel) (e : ExpressionModel)
    → printable_instruction i && printable_expression e ≡ true
    → printable_expression (head_behind i e) ≡ true
behind_printable i e f =
    let a = and_parts (printable_instruction i) (printable_expression e) f in
    steps_behind 0 e.instrs e.hints i a.0 a.1

-- ---- folded instructions

value_printable : (i : InstructionModel) (gs : Groups)
    → each printable_instruction (unfolded_groups (Group i gs NoGroup)) ≡ true
    → printable_expression (folded_value i gs) ≡ true
value_printable i gs f =
    plain_steps 0 (unfolded_groups gs ++ i ∷ [])
    (each_front printable_instruction (unfolded_groups gs ++ i ∷ []) [] f).0

folded_holds : (e : ExpressionModel) (c r : List Token) → each is_given c ≡ true
    → folded_spells e c r
    → printable_expression e ≡ true
folded_holds e c r g (i, gs, (a, b, q, h, l), k) =
    subst (λ (v : ExpressionModel). printable_expression v ≡ true) (sym k)
    (value_printable i gs (groups_printable (Group i gs NoGroup) c r (a, b, r, q, h, l, refl) g))

pub folded_only : OnlyPrintable folded_instruction printable_expression
unfolding folded_instruction
folded_only = record { holds = folded_holds }
