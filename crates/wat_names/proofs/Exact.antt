-- There are no faults exactly if the module is well named.
use Rattle.std.proofs.Common.{◌≡◌, ◌↔◌, ℕ, Bool, true, not, ◌&&◌, List, [], ◌∷◌, ◌++◌, Option, Some, None, length, refl, sym, ap, ◌∙◌, arith}
use Rattle.std.specs.Prelude.{is_some}
use Rattle.wat_tokens.specs.Prelude.{no_items}
use Rattle.wat_core.specs.Prelude.{ModuleModel, ModuleKindModel, ModuleFieldModel, ExpressionModel, text, binary}
use Rattle.wat_scopes.specs.Blocks.{first_fault}
use Rattle.wat_scopes.specs.Laws.Blocks.{nests_is}
use Rattle.wat_scopes.specs.Laws.FaultModels.{none-append, doubled_none, unknown_none, late_none}
use Rattle.wat_scopes.specs.declared.fault.FaultKind.{FaultKind}
use Rattle.wat_instr_uses.specs.Steps.{steps_of}
use Rattle.wat_names.specs.Bodies.{expressions_in, kind_faults, expression_faults, expressions_faults}
use Rattle.wat_names.specs.Defined.{defined}
use Rattle.wat_names.specs.Marks.{marks}
use Rattle.wat_names.specs.Names.{expression_nests, expressions_nest, used, known, well_named, KindIsWellNamed, WellNamed, all_faults, kind_faults_in, faults_in}

none_both : {A : Type 0} (xs ys : List A) (p q : Bool) → no_items xs ≡ p → no_items ys ≡ q
    → no_items (xs ++ ys) ≡ (p && q)
none_both xs ys p q e f =
    none-append xs ys ∙ ap (λ b. b && no_items ys) e ∙ ap (λ b. p && b) f

none_of_kind : (o : Option FaultKind) → no_items (kind_faults o) ≡ not (is_some o)
none_of_kind None = refl
none_of_kind (Some k) = refl

none_in_expression : (e : ExpressionModel) → no_items (expression_faults e) ≡ expression_nests e
none_in_expression e =
    none_of_kind (first_fault [] (steps_of e.instrs)) ∙ sym (nests_is (steps_of e.instrs))

none_in_expressions : (es : List ExpressionModel) → no_items (expressions_faults es) ≡ expressions_nest es
none_in_expressions [] = refl
none_in_expressions (e ∷ es) =
    none_both (expression_faults e) (expressions_faults es) (expression_nests e) (expressions_nest es)
    (none_in_expression e) (none_in_expressions es)

none_in_fields : (fs : List ModuleFieldModel) → no_items (all_faults fs) ≡ well_named fs
none_in_fields fs =
    none_both _ _ _ _ (none_in_expressions (expressions_in fs))
    (none_both _ _ _ _ (doubled_none (defined fs))
    (none_both _ _ _ _ (unknown_none (known fs) (used fs)) (late_none (marks fs))))

none_counted : {A : Type 0} (xs : List A) → (length xs ≡ 0) ↔ (no_items xs ≡ true)
none_counted [] = (λ e. refl, λ e. refl)
none_counted (x ∷ xs) = (λ e. absurd (omega arith), λ e. absurd cc)

exact_kind : (k : ModuleKindModel) (n : ℕ) → n ≡ length (kind_faults_in k) → (n ≡ 0) ↔ KindIsWellNamed k
exact_kind (text fs) n e = (
  λ z. sym (none_in_fields fs) ∙ (none_counted (all_faults fs)).0 (sym e ∙ z),
  λ w. e ∙ (none_counted (all_faults fs)).1 (none_in_fields fs ∙ w),
)
exact_kind (binary ss) n e = (λ z. tt, λ w. e)

-- n is the number of the faults
pub exact : (m : ModuleModel) (n : ℕ) → n ≡ length (faults_in m) → (n ≡ 0) ↔ WellNamed m
exact m n e = exact_kind m.kind n e
