use Rattle.std.specs.Prelude.{◌≡◌, ◌++◌, take}
use Rattle.wat_core.specs.Prelude.{fields_view}
use Rattle.wat_scopes.specs.Known.{names}
use Rattle.wat_names.specs.Defined.{aliases}
use Rattle.wat_names.proofs.defined.alias_all.Given as goal

abbrev pub invariant-loop-field : goal.invariant-loop-field
invariant-loop-field l = names l.out.items ≡ names l.fn.out.items ++ aliases (fields_view (take l.field-index l.fields))
