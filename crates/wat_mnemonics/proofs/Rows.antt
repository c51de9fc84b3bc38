-- Each row has an instruction.
use Rattle.std.specs.Prelude.{◌≡◌, ℕ, ◌<◌, nat_eq, true, refl}
use Rattle.wat_mnemonics.specs.Prelude.{agree_below_at, eqb-true, op_row, op_of_row, op_count}
use Rattle.wat_mnemonics.specs.declared.op.Op.{Op}

pub each_row : (n : ℕ) → n < op_count → (x : Op) × (op_row x ≡ n)
each_row n l = (op_of_row n, eqb-true (op_row (op_of_row n)) n (agree_below_at (λ k. nat_eq (op_row (op_of_row k)) k) (λ k. true) op_count n refl l))
