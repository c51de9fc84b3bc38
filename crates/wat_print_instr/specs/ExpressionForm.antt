-- How expressions are written: their instructions, each after its hint if there is one.
use Rattle.std.specs.Prelude.{ℕ, ◌+◌, Bool, ◌&&◌, ◌==◌, nat_lt, if◌then◌else◌, List, [], ◌∷◌, ◌++◌, flat_map, Option, Some, None, option_map}
use Rattle.wat_expr.specs.Prelude.{Token, String, in_parens, InstructionModel, ExpressionModel, is_branch, hint_name}
use Rattle.wat_print.specs.Parts.{spell_option, if_some, each}
use Rattle.wat_print_instr.specs.InstructionForm.{passes, spell_instruction, printable_instruction}

-- an instruction, and the hint before it
pub record HintedInstruction : Type 0 where
  pub hint : Option ℕ
  pub instr : InstructionModel

abbrev pub step_of : Option ℕ → InstructionModel → HintedInstruction
step_of h i = record { hint = h; instr = i }

-- ( @metadata.code.branch_hint "v" )
abbrev pub spell_hint : ℕ → List Token
spell_hint v = in_parens (hint_name ∷ String (v ∷ []) ∷ [])

-- 0 or 1, before a `br_if` or an `if`
abbrev pub printable_hint : InstructionModel → ℕ → Bool
printable_hint i v = is_branch i && nat_lt v 2

abbrev pub spell_step : HintedInstruction → List Token
spell_step x = spell_option spell_hint x.hint ++ spell_instruction x.instr

abbrev pub printable_step : HintedInstruction → Bool
printable_step x = if_some (printable_hint x.instr) x.hint && printable_instruction x.instr

-- The instructions from the index b on, each with its hint. None unless the indices of the hints
-- increase, and each is the index of one of these instructions.
abbrev pub steps_from : ℕ → List InstructionModel → List (ℕ × ℕ) → Option (List HintedInstruction)
steps_from b [] [] = Some []
steps_from b [] (h ∷ hs) = None
steps_from b (i ∷ is) [] = option_map (λ xs. step_of None i ∷ xs) (steps_from (b + 1) is [])
steps_from b (i ∷ is) (h ∷ hs) =
    if h.0 == b then option_map (λ xs. step_of (Some h.1) i ∷ xs) (steps_from (b + 1) is hs)
    else option_map (λ xs. step_of None i ∷ xs) (steps_from (b + 1) is (h ∷ hs))

abbrev pub spell_expression : ExpressionModel → List Token
spell_expression e = spell_option (flat_map spell_step) (steps_from 0 e.instrs e.hints)

abbrev pub printable_expression : ExpressionModel → Bool
printable_expression e = passes (each printable_step) (steps_from 0 e.instrs e.hints)

-- the hint of the instruction at the index b, if the first hint has the index b
abbrev pub hint_for : ℕ → List (ℕ × ℕ) → Option ℕ
hint_for b [] = None
hint_for b (h ∷ hs) = if h.0 == b then Some h.1 else None

-- the hints of the instructions after the index b
abbrev pub hints_after : ℕ → List (ℕ × ℕ) → List (ℕ × ℕ)
hints_after b [] = []
hints_after b (h ∷ hs) = if h.0 == b then hs else h ∷ hs
