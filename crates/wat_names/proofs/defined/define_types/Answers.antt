use Rattle.std.proofs.Common.{arith}
use Rattle.wat_types.specs.Define.{type_view}
use Rattle.wat_names.specs.Defined.{type_names}
use Rattle.wat_names.proofs.Numbered.{numbered_item}
use Rattle.wat_names.proofs.defined.define_types.Goals as goal

pub loop-ty-preserved : goal.loop-ty-preserved
loop-ty-preserved c = record {
  number = omega (arith, c.in_ok-next.ensures, c.loop-ty.invariant.number);
  names = numbered_item type_names type_view c.args.types.now c.loop-ty.ty-index c.ty-item.result (omega arith) c.ty-item.is c.args.number c.loop-ty.next c.loop-ty.invariant.number _ _ _ c.loop-ty.invariant.names c.in_ok-define_type.ensures;
}
