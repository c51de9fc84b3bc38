use Rattle.std.proofs.Common.{◌<◌, ◌≤◌, ℕ, arith, subst, sym}
use Rattle.wat_lexer.proofs.Tables.{digit_value_at, digit_small}
use Rattle.wat_lexer.proofs.string.digit_value.Goals as goal

pub returns-clause-small : goal.returns-clause-small
returns-clause-small c =
    let fits : c.from.result < 256 = omega (arith, c.ranges.b.fits, c.from.ensures) in
    subst (λ (n : ℕ). n ≤ 36) (sym (digit_value_at c.from.result fits)) (digit_small c.from.result)
