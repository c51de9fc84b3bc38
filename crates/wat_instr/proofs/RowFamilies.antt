-- The instructions in the rows of blocks, of `if` and of `br_if`.
use Rattle.std.proofs.Common.{◌≡◌, ◌==◌, Bool, true, false, refl, ap, sym, ◌∙◌}
use Rattle.wat_instr.specs.Prelude.{eqb-true, by_test, op_row, Op, is_block, is_if, is_br_if}
use Rattle.wat_mnemonics.specs.Laws.TableIndex.{one_row}
use Rattle.wat_mnemonics.specs.declared.op.Op.TheVariants as ops
use Rattle.wat_mnemonics.specs.declared.indexed.BlockOp.TheVariants as block
use Rattle.wat_mnemonics.specs.declared.indexed.IndexedOp.TheVariants as indexed

-- ---- the patterns of the code

-- `block`, `loop` and `try_table`
abbrev pub matches_block : Op → Bool
matches_block (ops.Block block.block) = true
matches_block (ops.Block block.loop_) = true
matches_block ops.try_table = true
matches_block _ = false

-- `if`
abbrev pub matches_if : Op → Bool
matches_if (ops.Block block.if_) = true
matches_if _ = false

-- `br_if`
abbrev pub matches_br_if : Op → Bool
matches_br_if (ops.Indexed indexed.br_if) = true
matches_br_if _ = false

-- ---- each pattern is equal to the test of the row

same_row : (x y : Op) → (op_row x == op_row y) ≡ true → x ≡ y
same_row x y e = one_row x y (eqb-true (op_row x) (op_row y) e)

no_other_block : (h : Op) → (op_row h == op_row (ops.Block block.block)) ≡ false → (op_row h == op_row (ops.Block block.loop_)) ≡ false → (op_row h == op_row ops.try_table) ≡ false → matches_block h ≡ false
no_other_block (ops.Block block.block) a b c = absurd cc
no_other_block (ops.Block block.loop_) a b c = absurd cc
no_other_block ops.try_table a b c = absurd cc
no_other_block _ a b c = refl

pub block_rows : (h : Op) → is_block (op_row h) ≡ matches_block h
block_rows h =
    by_test (op_row h == op_row (ops.Block block.block))
    (λ a. rw (same_row h (ops.Block block.block) a) refl)
    (λ a. by_test (op_row h == op_row (ops.Block block.loop_))
    (λ b. rw (same_row h (ops.Block block.loop_) b) refl)
    (λ b. by_test (op_row h == op_row ops.try_table)
    (λ c. rw (same_row h ops.try_table c) refl)
    (λ c. rw (a, b, c, no_other_block h a b c) refl)))

no_other_if : (h : Op) → (op_row h == op_row (ops.Block block.if_)) ≡ false → matches_if h ≡ false
no_other_if (ops.Block block.if_) a = absurd cc
no_other_if _ a = refl

-- a test that only the instruction t passes
one_op : (t : Op) (test : Op → Bool) → test t ≡ true → ((h : Op) → (op_row h == op_row t) ≡ false → test h ≡ false) → (h : Op) → (op_row h == op_row t) ≡ test h
one_op t test passes others h =
    by_test (op_row h == op_row t)
    (λ a. a ∙ sym (ap test (same_row h t a) ∙ passes))
    (λ a. a ∙ sym (others h a))

pub if_rows : (h : Op) → is_if (op_row h) ≡ matches_if h
if_rows h = one_op (ops.Block block.if_) matches_if refl no_other_if h

no_other_br_if : (h : Op) → (op_row h == op_row (ops.Indexed indexed.br_if)) ≡ false → matches_br_if h ≡ false
no_other_br_if (ops.Indexed indexed.br_if) a = absurd cc
no_other_br_if _ a = refl

pub br_if_rows : (h : Op) → is_br_if (op_row h) ≡ matches_br_if h
br_if_rows h = one_op (ops.Indexed indexed.br_if) matches_br_if refl no_other_br_if h
