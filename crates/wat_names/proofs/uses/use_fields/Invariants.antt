use Rattle.std.specs.Prelude.{◌≡◌, ◌++◌, take}
use Rattle.wat_scopes.specs.Known.{names}
use Rattle.wat_core.specs.Prelude.{fields_view}
use Rattle.wat_names.specs.Used.{fields_uses}
use Rattle.wat_names.proofs.uses.use_fields.Given as goal

abbrev pub invariant-loop-field : goal.invariant-loop-field
invariant-loop-field l = names l.out.items ≡ names l.fn.out.items ++ fields_uses (fields_view (take l.field-index l.fields))
