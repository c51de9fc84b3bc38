-- `catch_all` is the only instruction in its row.
use Rattle.std.proofs.Common.{◌≡◌, ◌==◌, Bool, true, false, refl, ap, sym, ◌∙◌}
use Rattle.wat_instr.specs.Prelude.{eqb-true, by_test, op_row, Op}
use Rattle.wat_mnemonics.specs.Laws.TableIndex.{one_row}
use Rattle.wat_mnemonics.specs.declared.op.Op.TheVariants as ops
use Rattle.wat_mnemonics.specs.declared.scalar.ScalarOp.TheVariants as scalar

-- the pattern of the code
abbrev pub matches_catch_all : Op → Bool
matches_catch_all (ops.Scalar scalar.catch_all) = true
matches_catch_all _ = false

no_other : (h : Op) → (op_row h == op_row (ops.Scalar scalar.catch_all)) ≡ false → matches_catch_all h ≡ false
no_other (ops.Scalar scalar.catch_all) a = absurd cc
no_other _ a = refl

pub catch_all_row : (h : Op) → (op_row h == op_row (ops.Scalar scalar.catch_all)) ≡ matches_catch_all h
catch_all_row h =
    by_test (op_row h == op_row (ops.Scalar scalar.catch_all))
    (λ a. a ∙ sym (ap matches_catch_all (one_row h (ops.Scalar scalar.catch_all) (eqb-true (op_row h) (op_row (ops.Scalar scalar.catch_all)) a))))
    (λ a. a ∙ sym (no_other h a))
