use Rattle.std.proofs.Common.{◌≡◌, length, arith}
use Rattle.wat_operands.proofs.Again.{both, eight_items}
use Rattle.wat_operands.proofs.vector.join_8.Goals as goal

pub returns : goal.returns
returns g c =
    let first : length c.args.a ≡ 8 = omega arith in
    let second : length c.args.b ≡ 8 = omega arith in
    both _ c.args.a _ c.args.b (eight_items c.args.a _ _ _ _ _ _ _ _ first) (eight_items c.args.b _ _ _ _ _ _ _ _ second)
