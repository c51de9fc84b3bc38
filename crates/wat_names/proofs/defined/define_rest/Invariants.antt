use Rattle.std.specs.Prelude.{◌≡◌, ◌++◌, take}
use Rattle.wat_scopes.specs.Known.{names}
use Rattle.wat_core.specs.Prelude.{fields_view}
use Rattle.wat_names.specs.Numbered.{numbered}
use Rattle.wat_names.specs.Defined.{field_names}
use Rattle.wat_names.proofs.defined.define_rest.Given as goal

abbrev pub invariant-loop-at : goal.invariant-loop-at
invariant-loop-at l = names l.out.items ≡ names l.fn.out.items ++ numbered field_names 0 (fields_view (take l.at l.fields))
