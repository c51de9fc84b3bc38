use Rattle.std.specs.Prelude.{◌≡◌, ◌++◌, length, take}
use Rattle.wat_core.specs.Prelude.{fields_view}
use Rattle.wat_scopes.specs.Known.{names}
use Rattle.wat_names.specs.Numbered.{numbered}
use Rattle.wat_names.specs.Defined.{type_names, types_in}
use Rattle.wat_names.proofs.defined.define_all_types.Given as goal

abbrev pub invariant-loop-field : goal.invariant-loop-field
invariant-loop-field l = record {
  number : l.number ≡ length (types_in (fields_view (take l.field-index l.fields)));
  names : names l.out.items ≡ names l.fn.out.items ++ numbered type_names 0 (types_in (fields_view (take l.field-index l.fields)));
}
