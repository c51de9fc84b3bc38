-- How folded instructions are written: the last instruction first, and the others in groups after
-- it.
use Rattle.std.specs.Prelude.{ℕ, Bool, true, false, not, ◌&&◌, if◌then◌else◌, List, [], ◌∷◌, ◌++◌, Option, Some, None, option_map, is_some}
use Rattle.wat_expr.specs.Prelude.{Token, in_parens, op_of_row, Op, InstructionModel, ExpressionModel, Groups, NoGroup, Group}
use Rattle.wat_print.specs.Prelude.{any, Form, paren_form, spell_option, each}
use Rattle.wat_print_instr.specs.Form.{plain_form}
use Rattle.wat_print_instr.specs.InstructionForm.{spell_instruction, printable_instruction}
use Rattle.wat_mnemonics.specs.declared.indexed.IndexedOp.TheVariants as indexed
use Rattle.wat_mnemonics.specs.declared.op.Op.TheVariants as ops
use Rattle.wat_mnemonics.specs.declared.scalar.ScalarOp.TheVariants as scalar

-- ---- the groups that a `try_table` takes as catch clauses

-- `try_table`: a group directly after the operand may be a catch clause
abbrev pub takes_catches : Op → Bool
takes_catches ops.try_table = true
takes_catches _ = false

-- `catch` and `catch_all`: directly after a `try_table`, the group is read as a catch clause
abbrev pub is_catch : Op → Bool
is_catch (ops.Indexed indexed.catch) = true
is_catch (ops.Scalar scalar.catch_all) = true
is_catch _ = false

-- the `Op` of the row of i
abbrev pub op_of : InstructionModel → Op
op_of i = op_of_row i.row

-- the group of the instruction can separate a `try_table` from a `catch`
abbrev pub keeps_apart : InstructionModel → Bool
keeps_apart i = not (takes_catches (op_of i)) && not (is_catch (op_of i))

-- ---- which groups are written

-- each instruction in a separate group
abbrev pub own_groups : List InstructionModel → Groups
own_groups [] = NoGroup
own_groups (i ∷ is) = Group i NoGroup (own_groups is)

-- The group of the first instruction that keeps apart, and then the groups of the instructions
-- after it. The group contains the groups of the instructions before it. None if no instruction
-- keeps apart. The first argument lists the instructions before the list.
abbrev pub first_apart : List InstructionModel → List InstructionModel → Option Groups
first_apart before [] = None
first_apart before (i ∷ is) =
    if keeps_apart i then Some (Group i (own_groups before) (own_groups is))
    else first_apart (before ++ i ∷ []) is

-- the first group after a `try_table` would be a `catch` or `catch_all`
abbrev pub catch_first : InstructionModel → List InstructionModel → Bool
catch_first h [] = false
catch_first h (i ∷ is) = takes_catches (op_of h) && is_catch (op_of i)

-- the groups after the instruction h
abbrev pub groups_behind : InstructionModel → List InstructionModel → Option Groups
groups_behind h is = if catch_first h is then first_apart [] is else Some (own_groups is)

-- The group of the last instruction, with the groups of the others in it. The first argument lists
-- the instructions before the list.
abbrev pub group_from : List InstructionModel → List InstructionModel → Option Groups
group_from before [] = None
group_from before (i ∷ []) = option_map (λ gs. Group i gs NoGroup) (groups_behind i before)
group_from before (i ∷ j ∷ is) = group_from (before ++ i ∷ []) (j ∷ is)

-- ---- how groups are written

-- ( i )
abbrev pub own_form : Form InstructionModel
own_form = paren_form (plain_form spell_instruction printable_instruction any)

-- each is ( i groups )
abbrev pub spell_groups : Groups → List Token
spell_groups NoGroup = []
spell_groups (Group i gs hs) = in_parens (spell_instruction i ++ spell_groups gs) ++ spell_groups hs

abbrev pub spell_folded : ExpressionModel → List Token
spell_folded e = spell_option spell_groups (group_from [] e.instrs)

abbrev pub no_hints : List (ℕ × ℕ) → Bool
no_hints [] = true
no_hints (h ∷ hs) = false

-- no hints; each instruction can be written, and some group has the instructions
abbrev pub printable_folded : ExpressionModel → Bool
printable_folded e =
    no_hints e.hints && (each printable_instruction e.instrs && is_some (group_from [] e.instrs))
