-- The output of a loop.
use Rattle.std.specs.Prelude.{ℕ, suc, Bool, List, [], ◌∷◌, ◌++◌, length, map, Option, Some, None, Vec, if◌then◌else◌}
use Rattle.wat_instr.specs.Prelude.{Global, InstructionModel, instruction_view}
use Rattle.wat_expr.specs.declared.expression.Expression.{Expression}
use Rattle.wat_expr.specs.Expression.{hint_view}
use Rattle.wat_expr.specs.Items.{mark}

-- the instructions, the hints, and the number of spans if spans are kept
pub record Flat : Type 0 where
  pub instrs : List InstructionModel
  pub hints : List (ℕ × ℕ)
  pub spans : Option ℕ

-- the number of spans, if spans are kept
abbrev pub span_count : {S : Type 0} → Option (Vec S Global) → Option ℕ
span_count (Some v) = Some (length v.items)
span_count None = None

abbrev pub flat : Expression → Flat
flat e = record {
  instrs = map instruction_view e.instrs.items;
  hints = map hint_view e.branch_hints.items;
  spans = span_count e.instr_spans;
}

-- the empty output
abbrev pub no_output : Bool → Flat
no_output keeps = record { instrs = []; hints = []; spans = if keeps then Some 0 else None }

abbrev pub one_more : Option ℕ → Option ℕ
one_more (Some n) = Some (suc n)
one_more None = None

-- an instruction at the end, with the hint directly before its item
abbrev pub push : Option ℕ → InstructionModel → Flat → Flat
push p i f =
    record {
      instrs = f.instrs ++ i ∷ [];
      hints = f.hints ++ mark p (length f.instrs);
      spans = one_more f.spans;
    }
