-- The offset of an active data segment.
use Rattle.std.specs.Prelude.{[], ◌∷◌, ◌++◌, codes}
use Rattle.wat_expr.specs.Prelude.{Production, seq, made, where_else, after_word, at_word, InstructionModel, instruction, ExpressionModel, expression}

-- the instruction after the instructions of the expression
abbrev pub head_behind : InstructionModel → ExpressionModel → ExpressionModel
head_behind i e = record { instrs = e.instrs ++ i ∷ []; hints = e.hints }

-- an instruction, and items to the end; the instruction comes after the instructions of the items
unfoldable pub head_last : Production ExpressionModel
head_last = made (λ v. head_behind v.0 v.1) (seq instruction expression)

-- `offset` Expression if `offset` is next; otherwise the abbreviation, an instruction and items
unfoldable pub offset_inside : Production ExpressionModel
offset_inside =
    where_else (at_word (codes "offset")) (after_word (codes "offset") expression) head_last
