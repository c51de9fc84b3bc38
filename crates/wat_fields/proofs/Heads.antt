-- A head that comes after its items in the expression.
use Rattle.std.proofs.Common.{◌≡◌, List, [], ◌∷◌, ◌++◌, map, Some, refl, ap, sym}
use Rattle.wat_expr.specs.Prelude.{NotHeapless, heapless_expression}
use Rattle.wat_fields.specs.Prelude.{map_push, filled_behind, by_read, made, seq, Production, Token, InstructionModel, Instruction, instruction, instruction_view, ExpressionModel, expression_view, hint_view, expression, Expression, head_behind, head_last}

-- an expression that is read with a head has an instruction
pub never_heapless : (t : List Token) → NotHeapless heapless_expression (head_last.reads t)
unfolding head_last
never_heapless t =
    by_read (instruction.reads t)
    (λ x e. rw e (by_read (expression.reads x.1)
    (λ y f. rw f (filled_behind y.0.instrs (x.0 ∷ []) refl))
    (λ f. rw f tt)))
    (λ e. rw e tt)

made_read : {A B : Type 0} (f : A → B) (g : Production A) (t r : List Token) (v : A) → g.reads t ≡ Some (v, r) → (made f g).reads t ≡ Some (f v, r)
made_read f g t r v e = rw e refl

-- the expression that is read from an instruction and items
pub head_read : (t r : List Token) (i : InstructionModel) (e : ExpressionModel) → (seq instruction expression).reads t ≡ Some ((i, e), r) → head_last.reads t ≡ Some (head_behind i e, r)
unfolding head_last
head_read t r i e is = made_read (λ v. head_behind v.0 v.1) (seq instruction expression) t r (i, e) is

-- the view of an expression after an instruction was appended
pub put_view : (x y : Expression) (i : Instruction) → y.instrs.items ≡ x.instrs.items ++ i ∷ [] → y.branch_hints ≡ x.branch_hints → head_behind (instruction_view i) (expression_view x) ≡ expression_view y
put_view x y i is hints =
    rw (is, hints) (ap (λ (is : List InstructionModel). record { instrs = is; hints = map hint_view x.branch_hints.items }) (sym (map_push instruction_view x.instrs.items i)))
