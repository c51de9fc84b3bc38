-- Items, groups and instructions as contracts see them.
use Rattle.std.specs.Prelude.{None}
use Rattle.wat_expr.specs.Prelude.{Bor, LabelOp, Instruction, InstructionModel, instr_of, instruction_view}
use Rattle.wat_plain.specs.declared.taking.Sort.{Sort}
use Rattle.wat_plain.specs.declared.tree.Groups.{Groups}
use Rattle.wat_plain.specs.declared.tree.Items.{Items}
use Rattle.wat_mnemonics.specs.declared.op.Op.TheVariants as ops
use Rattle.wat_instr.specs.Operand as operands
use Rattle.wat_expr.specs.Folded as folded
use Rattle.wat_expr.specs.Items as items
use Rattle.wat_plain.specs.declared.taking.Sort.TheVariants as sorts
use Rattle.wat_plain.specs.declared.tree.Groups.TheVariants as group_tree
use Rattle.wat_plain.specs.declared.tree.Items.TheVariants as tree

abbrev pub instr_at : Bor Instruction → InstructionModel
instr_at i = instruction_view i.now

-- the items that the tree is
abbrev pub seen : Items → items.Items
seen tree.Nil = items.Nil
seen (tree.Plain' i p xs) = items.Plain (instr_at i) (seen xs)
seen (tree.Folded' i p ys q xs) = items.Folded (instr_at i) (seen ys) (seen xs)
seen (tree.Block' i p ys q xs) = items.Block (instr_at i) (seen ys) (seen xs)
seen (tree.IfThen' i p ops q th r xs) =
    items.IfThen (instr_at i) (seen ops) (seen th) (seen xs)
seen (tree.IfElse' i p ops q th r el s xs) =
    items.IfElse (instr_at i) (seen ops) (seen th) (seen el) (seen xs)
seen (tree.Hinted' v p xs) = items.Hinted v (seen xs)

-- the groups that the tree is
abbrev pub seen_groups : Groups → folded.Groups
seen_groups group_tree.Nil = folded.NoGroup
seen_groups (group_tree.Group' i p gs q hs) =
    folded.Group (instr_at i) (seen_groups gs) (seen_groups hs)

-- `else` or `end` without a label
abbrev pub label : LabelOp → InstructionModel
label op = instr_of (ops.Label op) (operands.label None)

-- what the group of an instruction holds
abbrev pub sort_seen : Sort → items.Sort
sort_seen sorts.Block = items.IsBlock
sort_seen sorts.If = items.IsIf
sort_seen sorts.Other = items.IsOther
