use Rattle.std.proofs.Common.{arith, sym}
use Rattle.wat_types.specs.Laws.Exponent.{exponent_complete}
use Rattle.wat_types.proofs.ExponentFound.{exponent_of_other}
use Rattle.wat_types.proofs.limits.exponent.Goals as goal

pub returns-then-pow-number : goal.returns-then-pow-number
returns-then-pow-number c = sym (exponent_complete c.args.number c.ilog2-k.result (omega (arith, c.pow.ensures, c.if-pow-number.true)))

pub returns-else-pow-number : goal.returns-else-pow-number
returns-else-pow-number c =
    sym (exponent_of_other c.args.number c.ilog2-k.result c.ilog2-k.ensures.power_le c.ilog2-k.ensures.next_power_gt (λ e. omega (arith, e, c.pow.ensures, c.if-pow-number.false)))
