use Rattle.std.specs.Prelude.{◌≡◌, ◌+◌, ◌++◌, take}
use Rattle.wat_scopes.specs.Known.{names}
use Rattle.wat_types.specs.Define.{types_view}
use Rattle.wat_names.specs.Numbered.{numbered}
use Rattle.wat_names.specs.Defined.{type_names}
use Rattle.wat_names.proofs.defined.define_types.Given as goal

abbrev pub invariant-loop-ty : goal.invariant-loop-ty
invariant-loop-ty l = record {
  number : l.next ≡ l.number + l.ty-index;
  names : names l.out.items ≡ names l.fn.out.items ++ numbered type_names l.number (types_view (take l.ty-index l.types));
}
