-- The tokens that a parser read, and the counters over these tokens.
use Rattle.std.specs.Prelude.{◌≡◌, suc, ◌+◌, ◌≤◌, max, true}
use Rattle.wat_instr.specs.Prelude.{State, ends, InstructionModel}
use Rattle.wat_expr.specs.declared.expression.Expression.{Expression}
use Rattle.wat_expr.specs.Expression.{expression_view, value_of}
use Rattle.wat_expr.specs.Items.{Items, lists, count, depth, deep}
use Rattle.wat_expr.specs.Folded.{Groups, is_folded, folded_value, count_groups, depth_groups}

-- The tokens from a to b list items up to the end. The expression has the unfolded instructions and
-- the hints of these items. `turns` rose by at least the number of items. `peak` is at least the
-- depth of the items. `held` is the maximum of the old `held` and the number of instructions that
-- waited at once.
pub record IsListed (a b : State) (e : Expression) : Type 0 where
  pub items : Items
  pub listed : lists items a.left b.left
  pub ended : ends b.left ≡ true
  pub value : expression_view e ≡ value_of items
  pub turned : a.turns + count items ≤ b.turns
  pub peak : depth items ≤ b.peak
  pub held : b.held ≡ max a.held (deep items)

-- The same for one group, without hints.
pub record IsFolded (a b : State) (e : Expression) : Type 0 where
  pub instr : InstructionModel
  pub within : Groups
  pub listed : is_folded instr within a.left b.left
  pub value : expression_view e ≡ folded_value instr within
  pub turned : a.turns + suc (count_groups within) ≤ b.turns
  pub peak : suc (depth_groups within) ≤ b.peak
  pub held : b.held ≡ max a.held (suc (depth_groups within))
