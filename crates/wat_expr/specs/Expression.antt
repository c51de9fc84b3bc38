-- Expressions as contracts see them, and the tokens that spell an expression.
use Rattle.std.specs.Prelude.{◌≡◌, [], ◌∷◌, ◌++◌, ℕ, Bool, true, false, List, length, map, Option, Some, None, Vec}
use Rattle.std.specs.Option.{option_map}
use Rattle.wat_instr.specs.Prelude.{Global, ends, Token, no_items, InstructionModel, instruction_view}
use Rattle.wat_expr.specs.declared.expression.BranchHint.{BranchHint}
use Rattle.wat_expr.specs.declared.expression.Expression.{Expression}
use Rattle.wat_expr.specs.Items.{Items, lists, unfolded, hints}

-- the instructions, and each hint as an index and a value
pub record ExpressionModel : Type 0 where
  pub instrs : List InstructionModel
  pub hints : List (ℕ × ℕ)

abbrev pub hint_view : BranchHint → ℕ × ℕ
hint_view h = (h.instr_index, h.value)

abbrev pub expression_view : Expression → ExpressionModel
expression_view e =
    record {
      instrs = map instruction_view e.instrs.items;
      hints = map hint_view
          e.branch_hints.items;
    }

abbrev pub heapless_expression : ExpressionModel → Bool
heapless_expression e = no_items e.instrs

-- the expression of items
abbrev pub value_of : Items → ExpressionModel
value_of xs = record { instrs = unfolded xs; hints = hints xs 0 }

-- The tokens c list items before the rest r, which is empty or begins with `)`. The expression has
-- the unfolded instructions and the hints of these items.
abbrev pub expression_spells : ExpressionModel → List Token → List Token → Type 0
expression_spells e c r = (xs : Items) × lists xs (c ++ r) r × (ends r ≡ true) × (e ≡ value_of xs)

-- if spans are kept, there is one span for each instruction; otherwise there are no spans
abbrev pub SpansAre : Bool → Expression → Type 0
SpansAre keeps e =
    elim e.instr_spans [
      | Some v ↦ (keeps ≡ true) × (length v.items ≡ length e.instrs.items)
      | None ↦ keeps ≡ false
    ]

-- the kept spans
abbrev pub kept_spans : {S : Type 0} → Option (Vec S Global) → Option (List S)
kept_spans s = option_map (λ v. v.items) s

-- one more span at the end, if spans are kept
abbrev pub and_span : {S : Type 0} → S → Option (List S) → Option (List S)
and_span s l = option_map (λ l. l ++ s ∷ []) l
